-- The operands that a format can have, and the word made of a row's value and its operands.
use Rattle.std.specs.Prelude.{◌≡◌, ℕ, zero, suc, ◌+◌, ◌-◌, ◌*◌, ◌/◌, ◌%◌, ◌^◌, ◌<◌, ◌≤◌, ◌⊎◌}
use Rattle.std.specs.Prelude.{Bool, true, false, List, [], ◌∷◌, if◌then◌else◌}
use Rattle.isa_rows.specs.declared.formats.Format.{Format}
use Rattle.isa_rows.specs.declared.operands.Insn.{Insn}
use Rattle.isa_rows.specs.Shape.{Field, Rd, Rs1, Rs2, Imm, fields_of, is_signed, has_rd, has_rs1, has_rs2, bits_of, zeros_below}

-- a number modulo 2 ^ 64 whose signed reading needs so many bits
abbrev pub IsSignedOf : ℕ → ℕ → Type 0
IsSignedOf bits n = (n < 2 ^ (bits - 1)) ⊎ ((2 ^ 64 - 2 ^ (bits - 1) ≤ n) × (n < 2 ^ 64))

-- a branch's offset, a jump's, and the number of an upper immediate
abbrev pub IsBranchOffset : ℕ → Type 0
IsBranchOffset n = (n % 2 ≡ 0) × IsSignedOf 13 n

abbrev pub IsJumpOffset : ℕ → Type 0
IsJumpOffset n = (n % 2 ≡ 0) × IsSignedOf 21 n

abbrev pub IsUpperImmediate : ℕ → Type 0
IsUpperImmediate n = (n % 2 ^ 12 ≡ 0) × IsSignedOf 32 n

-- the registers lie below these bounds, and of the immediate a fact holds
pub record Operands (rd rs1 rs2 : ℕ) (imm : Type 0) (insn : Insn) : Type 0 where
  pub rd_below : insn.rd < rd
  pub rs1_below : insn.rs1 < rs1
  pub rs2_below : insn.rs2 < rs2
  pub imm_is : imm

-- the bound of a register: one that a word has not is 0, the one number below 1
abbrev pub bound : Bool → ℕ
bound has = if has then 32 else 1

-- a signed number of so many bits, of which some low ones are 0
abbrev pub IsSignedAbove : ℕ → ℕ → ℕ → Type 0
IsSignedAbove zero bits n = IsSignedOf bits n
IsSignedAbove (suc zeros) bits n = (n % 2 ^ (suc zeros) ≡ 0) × IsSignedOf bits n

-- the immediates that the fields of a word can hold, read as signed or not
abbrev pub IsInRange : Bool → List Field → ℕ → Type 0
IsInRange true fields n = IsSignedAbove (zeros_below (bits_of fields) fields) (bits_of fields) n
IsInRange false fields n = n < 2 ^ bits_of fields

-- the operands that a format can have
unfoldable pub OperandsFit : Format → Insn → Type 0
OperandsFit format i =
    Operands (bound (has_rd (fields_of format))) (bound (has_rs1 (fields_of format))) (bound (has_rs2 (fields_of format)))
    (IsInRange (is_signed format) (fields_of format) i.imm) i

-- a number moved down by some bits (apart for none, as n / 1 does not compute to n)
abbrev pub moved_down : ℕ → ℕ → ℕ
moved_down zero n = n
moved_down (suc bits) n = n / 2 ^ (suc bits)

-- an operand in its field
abbrev pub placed : Field → Insn → ℕ
placed Rd i = i.rd * 2 ^ 7
placed Rs1 i = i.rs1 * 2 ^ 15
placed Rs2 i = i.rs2 * 2 ^ 20
placed (Imm at low count) i = moved_down low i.imm % 2 ^ count * 2 ^ at

abbrev pub all_placed : List Field → ℕ → Insn → ℕ
all_placed [] value i = value
all_placed (field ∷ fields) value i = all_placed fields (value + placed field i) i

-- a row's value with the operands put into the fields of its format
unfoldable pub word_of : Format → ℕ → Insn → ℕ
word_of format value i = all_placed (fields_of format) value i
