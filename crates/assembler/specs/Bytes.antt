-- The bytes that a statement places.
use Rattle.std.specs.Prelude.{ℕ, ◌*◌, ◌%◌, ◌^◌, Bool, if◌then◌else◌, ℤ, pos, ◌+ℤ◌, ◌-ℤ◌, ◌*ℤ◌, List, [], ◌++◌, replicate, Option, Some}
use Rattle.std.specs.Prelude.{None}
use Rattle.std.specs.Int.{int_div_euclid}
use Rattle.std.specs.List.{flat_map}
use Rattle.byteorder.specs.Endian.{little_bytes}
use Rattle.isa_rows.specs.declared.rows.Row.TheVariants.{Auipc, Addi, CIncOffsetImm}
use Rattle.isa_rows.specs.declared.operands.Insn.{Insn}
use Rattle.isa_rows.specs.Insn.{insn, sign_extended}
use Rattle.isa_rows.specs.InsnLaws.{insn_word}
use Rattle.asm_lines.specs.Text.{pieces_of}
use Rattle.asm_lines.specs.Number.{Expression, expression_of}
use Rattle.asm_lines.specs.Operand.{wrapped}
use Rattle.asm_lines.specs.declared.parsed.Directive.TheVariants.{Values, Ascii}
use Rattle.asm_lines.specs.Statement.{Statement, instruction, contents, Instruction, row, load, Data, item, text_bytes}
use Rattle.asm_lines.specs.Statement.{expression_or_nought}
use Rattle.assembler.specs.Places.{Symbols, zero_count}
use Rattle.assembler.specs.Values.{value_of}

-- the value of an expression whose name is known
abbrev pub or_zero : Option ℤ → ℤ
or_zero None = pos 0
or_zero (Some value) = value

abbrev pub value_at : Symbols → ℕ → Expression → ℤ
value_at symbols here e = or_zero (value_of symbols here e)

-- the word of an instruction, lowest byte first
unfoldable pub insn_bytes : Insn → List ℕ
insn_bytes i = little_bytes 4 (insn_word i)

-- the instruction with the distance to its target
abbrev pub aimed : Symbols → ℕ → Insn → Option Expression → Insn
aimed symbols here i None = i
aimed symbols here i (Some e) = record i { imm = wrapped (value_at symbols here e -ℤ pos here) }

-- A distance is 4096 times its upper part, rounded so that the rest is a signed number of 12 bits.
abbrev pub upper_part : ℤ → ℤ
upper_part distance = int_div_euclid (distance +ℤ pos 2048) (pos 4096)

abbrev pub lower_part : ℤ → ℤ
lower_part distance = distance -ℤ pos 4096 *ℤ upper_part distance

-- auipc, and addi or cincoffsetimm of the same register
abbrev pub load_bytes : Bool → ℕ → ℤ → List ℕ
load_bytes capability rd distance =
    insn_bytes (insn Auipc rd 0 0 (sign_extended 32 (wrapped (upper_part distance) % 2 ^ 20 * 2 ^ 12)))
    ++ insn_bytes (insn (if capability then CIncOffsetImm else Addi) rd rd 0 (wrapped (lower_part distance)))

-- a value of so many bytes, lowest byte first
unfoldable pub value_bytes : Symbols → ℕ → ℕ → List ℕ → List ℕ
value_bytes symbols here size piece = little_bytes size (wrapped (value_at symbols here (expression_or_nought (expression_of piece))))

abbrev pub instruction_bytes : Symbols → ℕ → Instruction → List ℕ
instruction_bytes symbols here (row i target) = insn_bytes (aimed symbols here i target)
instruction_bytes symbols here (load capability rd value) = load_bytes capability rd (value_at symbols here value -ℤ pos here)

abbrev pub data_bytes : Symbols → ℕ → Data → List ℕ
data_bytes symbols here (item (Values size) n operands) = flat_map (value_bytes symbols here size) (pieces_of operands)
data_bytes symbols here (item Ascii n between) = text_bytes between
data_bytes symbols here (item d n operands) = replicate (zero_count d here n) 0

unfoldable pub bytes_at : Symbols → ℕ → Statement → List ℕ
bytes_at symbols here (instruction i) = instruction_bytes symbols here i
bytes_at symbols here (contents d) = data_bytes symbols here d
bytes_at symbols here other = []
