-- The values of expressions, and what statements ask of them: that they are in range, known and within reach.
use Rattle.std.specs.Prelude.{ℕ, ◌-◌, ◌%◌, ◌^◌, Bool, true, false, not, ◌&&◌, ◌==◌, if◌then◌else◌, ℤ, pos, neg_ℤ, ◌+ℤ◌, ◌-ℤ◌, int_lt, List}
use Rattle.std.specs.Prelude.{[], ◌∷◌, map, Option, Some, None, is_none}
use Rattle.std.specs.List.{list_any}
use Rattle.isa_rows.specs.declared.formats.Format.{Format}
use Rattle.isa_rows.specs.declared.formats.Format.TheVariants.{Branch}
use Rattle.isa_rows.specs.Line.{line_of}
use Rattle.image.specs.Image.{is_good_header}
use Rattle.asm_lines.specs.Text.{pieces_of, is_dot}
use Rattle.asm_lines.specs.Number.{Expression, expression_of, is_in_limits}
use Rattle.asm_lines.specs.Operand.{wrapped}
use Rattle.asm_lines.specs.Statement.{Statement, instruction, setting, origin, contents, Instruction, row, load, Setting, entry, Data}
use Rattle.asm_lines.specs.declared.parsed.Directive.TheVariants.{Values, Capability}
use Rattle.asm_lines.specs.Statement.{item, is_in_size, is_natural, operand_at, capability_parts, expression_or_nought}
use Rattle.assembler.specs.Places.{Symbols, value_in}

-- the value of an expression of a statement at a place; none where its name is unknown. The name `.` is worth the place.
abbrev pub named_value : Option ℕ → ℤ → Option ℤ
named_value None offset = None
named_value (Some value) offset = Some (pos value +ℤ offset)

abbrev pub value_by_name : Symbols → ℕ → Option (List ℕ) → ℤ → Option ℤ
value_by_name symbols here None offset = Some offset
value_by_name symbols here (Some name) offset = named_value (if is_dot name then Some here else value_in symbols name) offset

unfoldable pub value_of : Symbols → ℕ → Expression → Option ℤ
value_of symbols here e = value_by_name symbols here e.name e.offset

-- a value that is known passes a test
abbrev pub known_and : (ℤ → Bool) → Option ℤ → Bool
known_and test None = false
known_and test (Some value) = test value

-- how far a branch or jal reaches: an even distance of 13 or 21 bits with the sign (unprivileged manual, B and J immediates)
abbrev pub reach_of : Format → ℕ
reach_of Branch = 4096
reach_of other = 1048576

abbrev pub is_reached : ℕ → ℤ → Bool
is_reached reach distance =
    (wrapped distance % 2 == 0) && (not (int_lt distance (neg_ℤ (pos reach))) && int_lt distance (pos reach))

-- what auipc and a signed number of 12 bits reach
abbrev pub is_loadable : ℤ → Bool
is_loadable distance = not (int_lt distance (neg_ℤ (pos (2 ^ 31)))) && int_lt distance (pos (2 ^ 31 - 2048))

-- an entry of an image of so many pages, in either version
abbrev pub is_entry : ℕ → ℤ → Bool
is_entry page_count value = not (int_lt value (pos 0)) && is_good_header 2 page_count (wrapped value) 0

-- What a statement asks of an expression: the range of its value (another is A3), and what the value reaches in an image of so many pages,
-- from the statement's place (another is A6).
pub record AskedValue : Type 0 where
  pub expression : Expression
  pub is_in_range : ℤ → Bool
  pub is_near : ℕ → ℕ → ℤ → Bool

abbrev pub asked : Expression → (ℤ → Bool) → (ℕ → ℕ → ℤ → Bool) → AskedValue
asked e range near = record { expression = e; is_in_range = range; is_near = near }

-- the expressions that a statement names, each with what is asked of it
abbrev pub asked_by_instruction : Instruction → List AskedValue
asked_by_instruction (row i None) = []
asked_by_instruction (row i (Some target)) =
    asked target is_in_limits (λ page_count here v. is_reached (reach_of (line_of i.row).format) (v -ℤ pos here)) ∷ []
asked_by_instruction (load capability rd value) = asked value is_in_limits (λ page_count here v. is_loadable (v -ℤ pos here)) ∷ []

abbrev pub asked_by_setting : Setting → List AskedValue
asked_by_setting (entry e) = asked e is_in_limits (λ page_count here v. is_entry page_count v) ∷ []
asked_by_setting other = []

-- a value of so many bytes need only be in range
abbrev pub asked_value : ℕ → List ℕ → AskedValue
asked_value size piece = asked (expression_or_nought (expression_of piece)) (is_in_size size) (λ page_count here v. true)

-- an operand of .cap
abbrev pub part_of : List ℕ → ℕ → Expression
part_of operands i = expression_or_nought (operand_at i operands)

abbrev pub asked_part : List ℕ → ℕ × ℕ → AskedValue
asked_part operands p = asked (part_of operands p.0) (is_natural p.1) (λ page_count here v. true)

abbrev pub asked_by_data : Data → List AskedValue
asked_by_data (item (Values size) n operands) = map (asked_value size) (pieces_of operands)
asked_by_data (item Capability n operands) = map (asked_part operands) capability_parts
asked_by_data other = []

abbrev pub asked_by : Statement → List AskedValue
asked_by (instruction i) = asked_by_instruction i
asked_by (setting s) = asked_by_setting s
asked_by (origin n) = []
asked_by (contents d) = asked_by_data d

-- a value out of range (A3), a name that no line defines (A5), a value out of reach (A6)
abbrev pub is_beyond : Symbols → ℕ → AskedValue → Bool
is_beyond symbols here a = known_and (λ v. not (a.is_in_range v)) (value_of symbols here a.expression)

abbrev pub is_unknown : Symbols → ℕ → AskedValue → Bool
is_unknown symbols here a = is_none (value_of symbols here a.expression)

abbrev pub is_far : ℕ → Symbols → ℕ → AskedValue → Bool
is_far page_count symbols here a = known_and (λ v. not (a.is_near page_count here v)) (value_of symbols here a.expression)

unfoldable pub has_value_beyond : Symbols → ℕ → Statement → Bool
has_value_beyond symbols here s = list_any (is_beyond symbols here) (asked_by s)

unfoldable pub has_unknown_name : Symbols → ℕ → Statement → Bool
has_unknown_name symbols here s = list_any (is_unknown symbols here) (asked_by s)

unfoldable pub is_out_of_reach : ℕ → Symbols → ℕ → Statement → Bool
is_out_of_reach page_count symbols here s = list_any (is_far page_count symbols here) (asked_by s)
