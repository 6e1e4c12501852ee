-- What each mnemonic is written with: its operands, with a word for each, and the numbers that it can be.
use Rattle.base.specs.Ram.{most_pages}
use Rattle.std.specs.Prelude.{ℕ, ◌-◌, ◌^◌, Bool, true, false, if◌then◌else◌, pos}
use Rattle.std.specs.Prelude.{List, [], ◌∷◌, map, Option, Some, None, codes}
use Rattle.isa_rows.specs.declared.rows.Row.TheVariants.{Addi}
use Rattle.isa_rows.specs.declared.slots.Slot.{Slot}
use Rattle.isa_rows.specs.declared.slots.Slot.TheVariants.{Rd, Rs1, Rs2, Signed, Unsigned, Upper, Small, Csr, Special, Address, Authority}
use Rattle.isa_rows.specs.declared.slots.Slot.TheVariants.{Target}
use Rattle.isa_rows.specs.declared.slots.Naming.{Naming}
use Rattle.isa_rows.specs.declared.slots.Naming.TheVariants.{Integer, Capability}
use Rattle.asm_lines.specs.declared.fault.LineFault.{LineFault}
use Rattle.asm_lines.specs.declared.ranges.Range.{Range}
use Rattle.asm_lines.specs.declared.forms.Written.{Written}
use Rattle.asm_lines.specs.declared.forms.Written.TheVariants as written
use Rattle.asm_lines.specs.declared.parsed.Fill.{Fill}
use Rattle.asm_lines.specs.Fills.{row_of, fill_named}
use Rattle.asm_lines.specs.Number.{number_of, expression_of}
use Rattle.asm_lines.specs.Operand.{within, fault_of, filled_slot}
use Rattle.asm_lines.specs.Ranges.{every_number, is_within, natural, range, slot_range, value_range}
use Rattle.asm_lines.specs.Statement.{Pattern, is_word, value_fault, plain, pattern_of, draft_of}

-- ---- the numbers that an operand can be

abbrev pub range_of : Written → Range
range_of (written.Slot s) = slot_range s
range_of (written.Number r) = r
range_of (written.Value r) = r
range_of written.Quoted = every_number

-- ---- operands

pub record Operand : Type 0 where
  pub word : List ℕ
  pub written : Written

abbrev pub operand : List ℕ → Written → Operand
operand word w = record { word = word; written = w }

-- a row's operand as a manual writes it
abbrev pub is_capability : Naming → Bool
is_capability Capability = true
is_capability other = false

abbrev pub slot_word : Slot → List ℕ
slot_word (Rd naming) = if is_capability naming then codes "cd" else codes "rd"
slot_word (Rs1 naming) = if is_capability naming then codes "cs1" else codes "rs1"
slot_word (Rs2 naming) = if is_capability naming then codes "cs2" else codes "rs2"
slot_word Signed = codes "imm"
slot_word (Unsigned bits) = codes "imm"
slot_word Upper = codes "imm"
slot_word Small = codes "imm"
slot_word Csr = codes "csr"
slot_word Special = codes "scr"
slot_word (Address naming) = if is_capability naming then codes "imm(cs1)" else codes "imm(rs1)"
slot_word (Authority naming) = if is_capability naming then codes "(cs1)" else codes "(rs1)"
slot_word (Target bits) = codes "target"

abbrev pub slot_operand : Slot → Operand
slot_operand s = operand (slot_word s) (written.Slot s)

-- the first fault of an operand's text that the text alone decides; that of a text in quotes its whole line decides
unfoldable pub operand_fault : Written → List ℕ → Option LineFault
operand_fault (written.Slot s) text = fault_of (filled_slot s text (draft_of (plain Addi [])))
operand_fault (written.Number r) text = fault_of (within r (number_of text))
operand_fault (written.Value r) text = value_fault (is_within r) (expression_of text)
operand_fault written.Quoted text = None

-- ---- the table

-- the operands of a statement; where it repeats, the last one stands once or more
pub record Form : Type 0 where
  pub operands : List Operand
  pub repeats : Bool

abbrev pub form : List Operand → Form
form operands = record { operands = operands; repeats = false }

abbrev pub number_operand : Range → Operand
number_operand r = operand (codes "a number") (written.Number r)

abbrev pub a_number : Range → Form
a_number r = form (number_operand r ∷ [])

abbrev pub values : ℕ → Form
values size = record { operands = operand (codes "one expression or more") (written.Value (value_range size)) ∷ []; repeats = true }

abbrev pub a_value : List ℕ → Range → Operand
a_value word r = operand word (written.Value r)

-- what is no row, no other name of one, and places no zeros by a number
abbrev pub forms : List (List ℕ × Form)
forms =
    (codes "la", form (slot_operand (Rd Integer) ∷ a_value (codes "expression") every_number ∷ []))
    ∷ (codes "cla", form (slot_operand (Rd Capability) ∷ a_value (codes "expression") every_number ∷ []))
    ∷ (codes ".pages", a_number (range (pos 1) (pos most_pages)))
    ∷ (codes ".mode", a_number (natural 1))
    ∷ (codes ".entry", form (a_value (codes "an expression") every_number ∷ []))
    ∷ (codes ".org", a_number (natural (2 ^ 64 - 1)))
    ∷ (codes ".byte", values 1)
    ∷ (codes ".half", values 2)
    ∷ (codes ".word", values 4)
    ∷ (codes ".dword", values 8)
    ∷ (codes ".ascii", form (operand (codes "a text in quotes") written.Quoted ∷ []))
    ∷ (
      codes ".cap",
      form
          (a_value (codes "base") (natural (2 ^ 64 - 1))
          ∷ a_value (codes "length") (natural (2 ^ 64 - 1))
          ∷ a_value (codes "permissions") (natural 0xFFFF)
          ∷ a_value (codes "flag") (natural 1)
          ∷ []),
    )
    ∷ []

abbrev pub form_in : List (List ℕ × Form) → List ℕ → Option Form
form_in [] word = None
form_in (f ∷ fs) word = if is_word word f.0 then Some f.1 else form_in fs word

-- the operands of a row, or of another name of one
abbrev pub pattern_slots : Option Pattern → List Slot
pattern_slots (Some p) = p.slots
pattern_slots None = []

abbrev pub form_or : Option Form → List Slot → Form
form_or (Some f) slots = f
form_or None slots = form (map slot_operand slots)

abbrev pub fill_form_or : Option Fill → Option Form → Option Form
fill_form_or (Some f) other = Some (a_number (natural (row_of f).most))
fill_form_or None other = other

abbrev pub form_named : List ℕ → Option Form
form_named word = fill_form_or (fill_named word) (form_in forms word)

-- what a mnemonic is written with
unfoldable pub form_of : List ℕ → Form
form_of word = form_or (form_named word) (pattern_slots (pattern_of word false))

-- the first operand of a form, and what is written after it
abbrev pub later : Bool → Operand → List Operand → List Operand
later repeats o [] = if repeats then o ∷ [] else []
later repeats o (p ∷ ps) = p ∷ ps

abbrev pub split_in : Bool → List Operand → Option (Operand × Form)
split_in repeats [] = None
split_in repeats (o ∷ os) = Some (o, record { operands = later repeats o os; repeats = repeats })

abbrev pub split_form : Form → Option (Operand × Form)
split_form f = split_in f.repeats f.operands
