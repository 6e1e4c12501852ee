-- What a fault is about: the operand that has it and its range, the part of the line, and what is known of it.
use Rattle.std.specs.Prelude.{ℕ, ◌-◌, ◌^◌, Bool, true, false, not, ◌==◌, if◌then◌else◌, ℤ, pos, neg_ℤ, ◌-ℤ◌, List, [], ◌∷◌, length}
use Rattle.std.specs.Prelude.{Option, Some, None, option_map, unwrap_or, codes}
use Rattle.std.specs.Option.{option_map_or}
use Rattle.isa_rows.specs.declared.slots.Slot.TheVariants.{Target}
use Rattle.isa_rows.specs.Line.{line_of}
use Rattle.asm_lines.specs.declared.fault.LineFault.{LineFault}
use Rattle.asm_lines.specs.declared.fault.LineFault.TheVariants as own
use Rattle.asm_lines.specs.declared.ranges.Range.{Range}
use Rattle.asm_lines.specs.declared.forms.Written.{Written}
use Rattle.asm_lines.specs.declared.forms.Written.TheVariants as written
use Rattle.asm_lines.specs.declared.parsed.Directive.TheVariants.{Capability}
use Rattle.asm_lines.specs.Forms.{Form, form_of, operand_fault, range_of, split_form}
use Rattle.asm_lines.specs.Ranges.{every_number, is_within, range}
use Rattle.asm_lines.specs.Line.{line_meaning}
use Rattle.asm_lines.specs.Number.{Expression, expression_of}
use Rattle.asm_lines.specs.Operand.{is_A2, wrapped}
use Rattle.asm_lines.specs.Parts.{Part, Parts, operand_parts, parts_of}
use Rattle.asm_lines.specs.Statement.{Statement, instruction, setting, contents, row, load, entry, item, is_word}
use Rattle.asm_lines.specs.Statement.{expression_or_nought}
use Rattle.assembler.specs.declared.fault.AsmCode.{AsmCode}
use Rattle.assembler.specs.declared.fault.AsmCode.TheVariants.{A1, A2, A3, A4, A5, A6, A7, A11}
use Rattle.assembler.specs.declared.misplaced.Misplaced.{Misplaced}
use Rattle.assembler.specs.declared.reason.Reason.{Reason}
use Rattle.assembler.specs.declared.reason.Reason.TheVariants as why
use Rattle.assembler.specs.declared.values.Worth.{Worth}
use Rattle.assembler.specs.declared.values.Worth.TheVariants.{Unknown, Beyond, Known}
use Rattle.assembler.specs.Faults.{Assembled, page_count, misplaced}
use Rattle.assembler.specs.Standing.{Standing}
use Rattle.assembler.specs.Values.{value_of, reach_of, part_of}
use Rattle.assembler.specs.Worth.{worth}

-- what an expression of the faulty line is worth, and what a text is as one (0 where it cannot be read)
abbrev pub worth_at : Standing → Expression → Worth
worth_at s e = worth (value_of s.symbols s.assembled.places.place e)

abbrev pub worth_read : Standing → List ℕ → Worth
worth_read s text = worth_at s (expression_or_nought (expression_of text))

-- its value as a number; 0 where it is unknown or beyond all numbers
abbrev pub number : Worth → ℤ
number (Known value) = value
number other = pos 0

-- ---- the operand, and the part

-- an expression that a fault is about: one out of its range (A3), one whose name is unknown (A5), any (A6)
abbrev pub is_faulty : AsmCode → Range → Worth → Bool
is_faulty A3 r Beyond = true
is_faulty A3 r (Known value) = not (is_within r value)
is_faulty A5 r Unknown = true
is_faulty A6 r w = true
is_faulty other r w = false

abbrev pub is_A3 : Option LineFault → Bool
is_A3 (Some own.A3) = true
is_A3 other = false

-- an operand that a fault is about: one whose text alone has the fault that the line alone has; where it has none, an expression
abbrev pub has_fault : AsmCode → Option LineFault → Standing → Written → List ℕ → Bool
has_fault code (Some own.A2) s w text = is_A2 (operand_fault w text)
has_fault code (Some other) s w text = is_A3 (operand_fault w text)
has_fault code None s (written.Slot (Target bits)) text = is_faulty code every_number (worth_read s text)
has_fault code None s (written.Value r) text = is_faulty code r (worth_read s text)
has_fault code None s other text = false

-- the range of the first such operand, and the part of the line where it is written
abbrev pub first_in : AsmCode → Option LineFault → Standing → Form → List Part → Option (Range × Part)
first_in code fault s f [] = None
first_in code fault s f (p ∷ ps) = option_map_or
    (λ o. if has_fault code fault s o.0.written p.text then Some (range_of o.0.written, p) else first_in code fault s o.1 ps)
    (split_form f)
    None

abbrev pub operand_at_fault : AsmCode → Standing → List ℕ → Option (Range × Part)
operand_at_fault code s line =
    first_in code (line_meaning line).fault s (form_of (parts_of line).mnemonic.text) (operand_parts (parts_of line).operands)

-- of a fault of operands the part of the operand, or else of all operands, or else of the mnemonic
abbrev pub part_found : Parts → Option (Range × Part) → Part
part_found parts (Some found) = found.1
part_found parts None = if length parts.operands.text == 0 then parts.mnemonic else parts.operands

-- A2 is about the mnemonic where the operands are right
abbrev pub part_at_fault : AsmCode → Standing → List ℕ → Part
part_at_fault A1 s line = (parts_of line).mnemonic
part_at_fault A2 s line =
    if is_A2 (line_meaning line).fault then part_found (parts_of line) (operand_at_fault A2 s line) else (parts_of line).mnemonic
part_at_fault A4 s line = unwrap_or (parts_of line).label (parts_of line).mnemonic
part_at_fault A7 s line = (parts_of line).mnemonic
part_at_fault code s line = part_found (parts_of line) (operand_at_fault code s line)

-- ---- what is known of it

-- A2: a directive whose operands are right stands elsewhere
abbrev pub form_reason : Bool → List ℕ → Reason
form_reason true word = why.Form
form_reason false word = if is_word word (codes ".entry") then why.Repeated else why.Late

-- A3: the range, and the value where that is not written as a number (what is beyond all numbers has none to show)
abbrev pub range_reason : Option LineFault → Worth → Range → Reason
range_reason None (Known value) r = why.Value value r
range_reason fault w r = why.Number r

-- A6: how far the target is, and what the instruction reaches, or the entry; A11: the range of the capability
abbrev pub even_range : ℕ → Range
even_range reach = range (neg_ℤ (pos reach)) (pos (reach - 2))

abbrev pub load_range : Range
load_range = range (neg_ℤ (pos (2 ^ 31))) (pos (2 ^ 31 - 2049))

abbrev pub value_reason : Standing → Option Statement → Option Reason
value_reason s (Some (instruction (row i (Some target)))) = Some
    (why.Target (number (worth_at s target) -ℤ pos s.assembled.places.place) (even_range (reach_of (line_of i.row).format)))
value_reason s (Some (instruction (load capability rd value))) =
    Some (why.Load (number (worth_at s value) -ℤ pos s.assembled.places.place) load_range)
value_reason s (Some (setting (entry e))) = Some (why.Entry (wrapped (number (worth_at s e))) (page_count s.assembled))
value_reason s (Some (contents (item Capability n operands))) = Some
    (why.Bounds (wrapped (number (worth_at s (part_of operands 0)))) (wrapped (number (worth_at s (part_of operands 1)))))
value_reason s other = None

-- A7: the place, and why the statement that the line leaves has none
abbrev pub misplaced_if_any : Assembled → Option Statement → Option Misplaced
misplaced_if_any s None = None
misplaced_if_any s (Some statement) = misplaced s statement

-- by the fault's code
abbrev pub reason_at_fault : AsmCode → Standing → List ℕ → Option Reason
reason_at_fault A2 s line = Some (form_reason (is_A2 (line_meaning line).fault) (parts_of line).mnemonic.text)
reason_at_fault A3 s line = option_map
    (λ found. range_reason (line_meaning line).fault (worth_read s found.1.text) found.0)
    (operand_at_fault A3 s line)
reason_at_fault A6 s line = value_reason s (line_meaning line).statement
reason_at_fault A7 s line = option_map
    (λ misplaced. why.Place s.assembled.places.place misplaced (page_count s.assembled))
    (misplaced_if_any s.assembled (line_meaning line).statement)
reason_at_fault A11 s line = value_reason s (line_meaning line).statement
reason_at_fault other s line = None
