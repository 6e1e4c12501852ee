-- Statements: rows and their aliases, the two-row loads of a value, directives.
use Rattle.base.specs.Ram.{most_pages}
use Rattle.std.specs.Prelude.{ℕ, ◌*◌, ◌-◌, ◌^◌, Bool, true, false, not, ◌&&◌, ◌||◌, ◌==◌, nat_eq, nat_le, if◌then◌else◌, ℤ, pos, neg_ℤ}
use Rattle.std.specs.Prelude.{int_lt, List, [], ◌∷◌, length, take, drop, get_or, slice_index, Option, Some, None, Result, Ok, Err, codes}
use Rattle.std.specs.Cmp.Lexicographic.{pointwise}
use Rattle.isa_rows.specs.declared.rows.Row.{Row}
use Rattle.isa_rows.specs.declared.rows.Row.TheVariants.{Addi, Jal, Jalr, Fence, FenceI}
use Rattle.isa_rows.specs.declared.operands.Insn.{Insn}
use Rattle.isa_rows.specs.Insn.{insn}
use Rattle.isa_rows.specs.declared.slots.Naming.TheVariants.{Integer}
use Rattle.isa_rows.specs.declared.slots.Slot.{Slot}
use Rattle.isa_rows.specs.declared.slots.Slot.TheVariants.{Rd, Rs1, Signed, Target}
use Rattle.asm_names.specs.Mnemonic.{row_named}
use Rattle.asm_names.specs.Registers.{register_named}
use Rattle.asm_names.specs.Slots.{slots_of}
use Rattle.asm_lines.specs.declared.fault.LineFault.{LineFault}
use Rattle.asm_lines.specs.declared.fault.LineFault.TheVariants.{A1, A2, A3, A8, A9}
use Rattle.asm_lines.specs.declared.parsed.Directive.{Directive}
use Rattle.asm_lines.specs.declared.parsed.Directive.TheVariants.{Zeros, Values, Ascii, Capability}
use Rattle.asm_lines.specs.declared.parsed.Fill.{Fill}
use Rattle.asm_lines.specs.Fills.{row_of, fill_named}
use Rattle.asm_lines.specs.Text.{pieces_of}
use Rattle.asm_lines.specs.Number.{Expression, expression, number_of, expression_of}
use Rattle.asm_lines.specs.Operand.{Draft, up_to, wrapped, told_fault, fault_of, filled_draft, filled_fault}

-- what places instructions
pub data Instruction : Type 0 where
  -- one instruction; the address that it jumps to, where it is written with one
  row : Insn → Option Expression → Instruction
  -- la, or cla for a capability: two instructions that put a value into a register
  load : Bool → ℕ → Expression → Instruction

-- what is set for the whole image, once
pub data Setting : Type 0 where
  pages : ℕ → Setting
  mode : Bool → Setting
  entry : Expression → Setting

-- what places bytes that are no instruction's: a directive, its number (0 where it takes none), and its other operands
pub data Data : Type 0 where
  item : Directive → ℕ → List ℕ → Data

-- values of so many bytes: expressions with commas between
abbrev pub values : ℕ → List ℕ → Data
values size operands = item (Values size) 0 operands

pub data Statement : Type 0 where
  instruction : Instruction → Statement
  setting : Setting → Statement
  -- a section begins at an address
  origin : ℕ → Statement
  contents : Data → Statement

-- a statement, unless a fault leaves none, and the first fault that its line decides
pub record Said : Type 0 where
  pub statement : Option Statement
  pub fault : Option LineFault

abbrev pub said : Option Statement → Option LineFault → Said
said statement fault = record { statement = statement; fault = fault }

abbrev pub is_word : List ℕ → List ℕ → Bool
is_word word name = pointwise nat_eq word name

-- What a mnemonic of an instruction stands for: an instruction with some operands already there, and those that are written.
pub record Pattern : Type 0 where
  pub insn : Insn
  pub slots : List Slot

abbrev pub pattern : Insn → List Slot → Pattern
pattern i slots = record { insn = i; slots = slots }

abbrev pub plain : Row → List Slot → Pattern
plain r slots = pattern (insn r 0 0 0 0) slots

abbrev pub row_pattern : Option Row → Option Pattern
row_pattern (Some r) = Some (plain r (slots_of r))
row_pattern None = None

-- Aliases (unprivileged manual, pseudoinstructions), then the rows by either of their names. `fence` and `fence.i` are aliases only where
-- they stand alone.
unfoldable pub pattern_of : List ℕ → Bool → Option Pattern
pattern_of word alone =
    if is_word word (codes "nop") then Some (plain Addi [])
    else (if is_word word (codes "li") then Some (plain Addi (Rd Integer ∷ Signed ∷ []))
    else (if is_word word (codes "mv") then Some (plain Addi (Rd Integer ∷ Rs1 Integer ∷ []))
    else (if is_word word (codes "j") then Some (plain Jal (Target 21 ∷ []))
    else (if is_word word (codes "ret") then Some (pattern (insn Jalr 0 1 0 0) [])
    else (if alone && is_word word (codes "fence") then Some (pattern (insn Fence 0 0 0 255) [])
    else (if alone && is_word word (codes "fence.i") then Some (plain FenceI [])
    else row_pattern (row_named word)))))))

-- A number out of range leaves a statement, which takes its size; operands of another form leave none.
abbrev pub leaves_statement : Option LineFault → Bool
leaves_statement None = true
leaves_statement (Some A1) = false
leaves_statement (Some A2) = false
leaves_statement (Some A3) = true
leaves_statement (Some A8) = false
leaves_statement (Some A9) = false

abbrev pub said_unless : Statement → Option LineFault → Said
said_unless s fault = said (if leaves_statement fault then Some s else None) fault

abbrev pub draft_of : Pattern → Draft
draft_of p = record { insn = p.insn; target = None }

abbrev pub row_said : Draft → Option LineFault → Said
row_said d fault = said_unless (instruction (row d.insn d.target)) fault

abbrev pub pattern_said : Option Pattern → List ℕ → Said
pattern_said (Some p) operands =
    row_said (filled_draft p.slots (pieces_of operands) (draft_of p)) (filled_fault p.slots (pieces_of operands) (draft_of p))
pattern_said None operands = said None (Some A1)

-- la and cla: a register and an expression; where its number is out of range, the expression 0 stands there
abbrev pub expression_or_nought : Result Expression LineFault → Expression
expression_or_nought (Ok e) = e
expression_or_nought (Err fault) = expression None (pos 0)

abbrev pub register_load : Bool → Option ℕ → Result Expression LineFault → Said
register_load capability (Some rd) value = said_unless (instruction (load capability rd (expression_or_nought value))) (fault_of value)
register_load capability None value = said None (Some A2)

abbrev pub load_said : Bool → List (List ℕ) → Said
load_said capability [] = said None (Some A2)
load_said capability (r ∷ []) = said None (Some A2)
load_said capability (r ∷ e ∷ []) = register_load capability (register_named r) (expression_of e)
load_said capability (r ∷ e ∷ f ∷ rest) = said None (Some A2)

-- a directive with a number: a statement of it; where it is out of range, this other
abbrev pub number_said : (ℕ → Statement) → Option Statement → Result ℤ LineFault → Said
number_said make other (Ok n) = said (Some (make (wrapped n))) None
number_said make other (Err fault) = said (if leaves_statement (Some fault) then other else None) (Some fault)

-- a number of 1 to the most pages
abbrev pub page_range : Result ℤ LineFault → Result ℤ LineFault
page_range (Ok n) = if int_lt n (pos 1) || int_lt (pos most_pages) n then Err A3 else Ok n
page_range (Err fault) = Err fault

-- .pages, .mode and .org, by the number after them
abbrev pub pages_said : Result ℤ LineFault → Said
pages_said number = number_said (λ n. setting (pages n)) (Some (setting (pages 0))) (page_range number)

abbrev pub mode_said : Result ℤ LineFault → Said
mode_said number = number_said (λ n. setting (mode (n == 1))) (Some (setting (mode false))) (up_to 1 number)

abbrev pub origin_said : Result ℤ LineFault → Said
origin_said number = number_said origin None (up_to (2 ^ 64 - 1) number)

abbrev pub entry_said : Result Expression LineFault → Said
entry_said e = said_unless (setting (entry (expression_or_nought e))) (fault_of e)

-- the sizes of values, in bytes
abbrev pub is_size : ℕ → Bool
is_size n = (n == 1) || ((n == 2) || ((n == 4) || (n == 8)))

-- a value of so many bytes lies between the least signed and the greatest unsigned number of its size
abbrev pub is_in_size : ℕ → ℤ → Bool
is_in_size size n = not (int_lt n (neg_ℤ (pos (2 ^ (8 * size - 1))))) && int_lt n (pos (2 ^ (8 * size)))

-- what of a value the line alone decides: its form, and the range of a number
abbrev pub known_value_fault : (ℤ → Bool) → Option (List ℕ) → ℤ → Option LineFault
known_value_fault is_in_range None n = if is_in_range n then None else Some A3
known_value_fault is_in_range (Some name) n = None

abbrev pub plain_value_fault : (ℤ → Bool) → Expression → Option LineFault
plain_value_fault is_in_range e = known_value_fault is_in_range e.name e.offset

abbrev pub value_fault : (ℤ → Bool) → Result Expression LineFault → Option LineFault
value_fault is_in_range (Ok e) = plain_value_fault is_in_range e
value_fault is_in_range (Err fault) = Some fault

abbrev pub values_fault : ℕ → List (List ℕ) → Option LineFault
values_fault size [] = None
values_fault size (p ∷ ps) = told_fault (value_fault (is_in_size size) (expression_of p)) (values_fault size ps)

-- one value or more
abbrev pub values_said : ℕ → List ℕ → Said
values_said size [] = said None (Some A2)
values_said size (b ∷ bs) = said_unless (contents (values size (b ∷ bs))) (values_fault size (pieces_of (b ∷ bs)))

-- a number of at most so much
abbrev pub is_natural : ℕ → ℤ → Bool
is_natural most n = not (int_lt n (pos 0) || int_lt (pos most) n)

-- the operands of .cap, each with the greatest number that it can be: base, length, permissions and flag
abbrev pub capability_parts : List (ℕ × ℕ)
capability_parts = (0, 2 ^ 64 - 1) ∷ (1, 2 ^ 64 - 1) ∷ (2, 0xffff) ∷ (3, 1) ∷ []

abbrev pub operand_at : ℕ → List ℕ → Result Expression LineFault
operand_at i operands = expression_of (get_or (pieces_of operands) i [])

abbrev pub parts_fault : List (ℕ × ℕ) → List ℕ → Option LineFault
parts_fault [] operands = None
parts_fault (p ∷ ps) operands = told_fault (value_fault (is_natural p.1) (operand_at p.0 operands)) (parts_fault ps operands)

abbrev pub capability_fault : List ℕ → Option LineFault
capability_fault operands =
    if length (pieces_of operands) == length capability_parts then parts_fault capability_parts operands else Some A2

-- the byte that an escape stands for: \n, \0, \\ and \"
abbrev pub is_escape : ℕ → Bool
is_escape b = (b == 110) || ((b == 48) || ((b == 92) || (b == 34)))

abbrev pub escaped_byte : ℕ → ℕ
escaped_byte b = if b == 110 then 10 else (if b == 48 then 0 else b)

-- after the opening quote, the first quote that is not escaped ends the text, and each escape is one that there is
abbrev pub closes_from : Bool → List ℕ → Bool
closes_from escaped [] = false
closes_from false (b ∷ bs) = if b == 34 then length bs == 0 else (if b == 92 then closes_from true bs else closes_from false bs)
closes_from true (b ∷ bs) = is_escape b && closes_from false bs

abbrev pub is_quoted : List ℕ → Bool
is_quoted operands = (slice_index operands 0 == 34) && closes_from false (drop 1 operands)

-- the bytes that a text between quotes stands for
abbrev pub text_bytes_from : Bool → List ℕ → List ℕ
text_bytes_from escaped [] = []
text_bytes_from false (b ∷ bs) = if b == 92 then text_bytes_from true bs else (b ∷ text_bytes_from false bs)
text_bytes_from true (b ∷ bs) = escaped_byte b ∷ text_bytes_from false bs

abbrev pub text_bytes : List ℕ → List ℕ
text_bytes between = text_bytes_from false between

abbrev pub text_said : List ℕ → Said
text_said operands =
    if is_quoted operands then said (Some (contents (item Ascii 0 (take (length operands - 2) (drop 1 operands))))) None
    else said None (Some A2)

-- The directives that place bytes and take no number alone, by name.
abbrev pub directives : List (List ℕ × Directive)
directives =
    (codes ".byte", Values 1)
    ∷ (codes ".half", Values 2)
    ∷ (codes ".word", Values 4)
    ∷ (codes ".dword", Values 8)
    ∷ (codes ".ascii", Ascii)
    ∷ (codes ".cap", Capability)
    ∷ []

abbrev pub directive_in : List (List ℕ × Directive) → List ℕ → Option Directive
directive_in [] word = None
directive_in (d ∷ ds) word = if is_word word d.0 then Some d.1 else directive_in ds word

abbrev pub directive_or : Option Fill → Option Directive → Option Directive
directive_or (Some f) other = Some (Zeros f)
directive_or None other = other

-- the directive of a name, if it places bytes
abbrev pub directive_named : List ℕ → Option Directive
directive_named word = directive_or (fill_named word) (directive_in directives word)

-- the greatest number that a directive takes
abbrev pub most_of : Directive → ℕ
most_of (Zeros f) = (row_of f).most
most_of other = 0

-- a directive with a number
abbrev pub zeros_said : Fill → Result ℤ LineFault → Said
zeros_said f number = number_said (λ n. contents (item (Zeros f) n [])) None (up_to (row_of f).most number)

abbrev pub data_said : Directive → List ℕ → Said
data_said (Zeros f) operands = zeros_said f (number_of operands)
data_said (Values size) operands = values_said size operands
data_said Ascii operands = text_said operands
data_said Capability operands = said_unless (contents (item Capability 0 operands)) (capability_fault operands)

-- what the lines of a text say of their data: values have a size, and no number is one that the directive refuses
abbrev pub is_sized : Directive → Bool
is_sized (Values size) = is_size size
is_sized other = true

abbrev pub is_in_bounds : Data → Bool
is_in_bounds (item d number text) = is_sized d && nat_le number (most_of d)

-- a directive that places bytes, or else an instruction
abbrev pub placing_said : Option Directive → List ℕ → List ℕ → Said
placing_said (Some d) word operands = data_said d operands
placing_said None word operands = pattern_said (pattern_of word (length operands == 0)) operands

-- what a mnemonic and its operands say
unfoldable pub said_by : List ℕ → List ℕ → Said
said_by word operands =
    if is_word word (codes "la") then load_said false (pieces_of operands)
    else (if is_word word (codes "cla") then load_said true (pieces_of operands)
    else (if is_word word (codes ".pages") then pages_said (number_of operands)
    else (if is_word word (codes ".mode") then mode_said (number_of operands)
    else (if is_word word (codes ".entry") then entry_said (expression_of operands)
    else (if is_word word (codes ".org") then origin_said (number_of operands)
    else placing_said (directive_named word) word operands)))))
