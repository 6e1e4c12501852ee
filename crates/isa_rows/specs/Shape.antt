-- The formats as data: which fields of a word hold operands, in order from the lowest, and whether the immediate is read as signed
-- (unprivileged manual, Base Instruction Formats and Immediate Encoding Variants). Which bits a format's rows fix, the operands of a word,
-- the word of operands, and which operands fit are folds over these fields.
use Rattle.std.specs.Prelude.{ℕ, ◌+◌, ◌-◌, ◌*◌, ◌^◌, Bool, true, false, List, [], ◌∷◌, ◌++◌, min, max, nat_lt, if◌then◌else◌}
use Rattle.isa_rows.specs.declared.formats.Format.{Format}
use Rattle.isa_rows.specs.declared.formats.Format.TheVariants.{Upper, Jump, Immediate, Unsigned, Store, Branch, Shift6, Shift5}
use Rattle.isa_rows.specs.declared.formats.Format.TheVariants.{Register, Whole, Unary, Pair}

-- a field: a register, or `count` bits of the immediate from bit `low` on, which stand in the word from bit `at` on
pub data Field : Type 0 where
  Rd : Field
  Rs1 : Field
  Rs2 : Field
  Imm : (at low count : ℕ) → Field

abbrev pub fields_of : Format → List Field
fields_of Upper = Rd ∷ Imm 12 12 20 ∷ []
fields_of Jump = Rd ∷ Imm 12 12 8 ∷ Imm 20 11 1 ∷ Imm 21 1 10 ∷ Imm 31 20 1 ∷ []
fields_of Immediate = Rd ∷ Rs1 ∷ Imm 20 0 12 ∷ []
fields_of Unsigned = Rd ∷ Rs1 ∷ Imm 20 0 12 ∷ []
fields_of Store = Imm 7 0 5 ∷ Rs1 ∷ Rs2 ∷ Imm 25 5 7 ∷ []
fields_of Branch = Imm 7 11 1 ∷ Imm 8 1 4 ∷ Rs1 ∷ Rs2 ∷ Imm 25 5 6 ∷ Imm 31 12 1 ∷ []
fields_of Shift6 = Rd ∷ Rs1 ∷ Imm 20 0 6 ∷ []
fields_of Shift5 = Rd ∷ Rs1 ∷ Imm 20 0 5 ∷ []
fields_of Register = Rd ∷ Rs1 ∷ Rs2 ∷ []
fields_of Whole = []
fields_of Unary = Rd ∷ Rs1 ∷ []
fields_of Pair = Rs1 ∷ Rs2 ∷ []

abbrev pub is_signed : Format → Bool
is_signed Upper = true
is_signed Jump = true
is_signed Immediate = true
is_signed Unsigned = false
is_signed Store = true
is_signed Branch = true
is_signed Shift6 = false
is_signed Shift5 = false
is_signed Register = false
is_signed Whole = false
is_signed Unary = false
is_signed Pair = false

-- which registers a word has
abbrev pub has_rd : List Field → Bool
has_rd [] = false
has_rd (Rd ∷ fields) = true
has_rd (_ ∷ fields) = has_rd fields

abbrev pub has_rs1 : List Field → Bool
has_rs1 [] = false
has_rs1 (Rs1 ∷ fields) = true
has_rs1 (_ ∷ fields) = has_rs1 fields

abbrev pub has_rs2 : List Field → Bool
has_rs2 [] = false
has_rs2 (Rs2 ∷ fields) = true
has_rs2 (_ ∷ fields) = has_rs2 fields

-- how many bits the immediate has (0: there is none)
abbrev pub bits_of : List Field → ℕ
bits_of [] = 0
bits_of (Imm at low count ∷ fields) = max (low + count) (bits_of fields)
bits_of (_ ∷ fields) = bits_of fields

-- and how many of its low bits are 0, as they stand in no field
abbrev pub zeros_below : ℕ → List Field → ℕ
zeros_below bits [] = bits
zeros_below bits (Imm at low count ∷ fields) = zeros_below (min bits low) fields
zeros_below bits (_ ∷ fields) = zeros_below bits fields

-- where a field stands in the word, and how many bits it has
abbrev pub first_bit : Field → ℕ
first_bit Rd = 7
first_bit Rs1 = 15
first_bit Rs2 = 20
first_bit (Imm at low count) = at

abbrev pub bit_count : Field → ℕ
bit_count (Imm at low count) = count
bit_count _ = 5

-- the bits of a word that hold operands
abbrev pub operand_mask : List Field → ℕ
operand_mask [] = 0
operand_mask (field ∷ fields) = (2 ^ bit_count field - 1) * 2 ^ first_bit field + operand_mask fields

-- the bits from one on that hold none, each stretch by its first bit and the number of its bits
abbrev pub stretch : ℕ → ℕ → List (ℕ × ℕ)
stretch from to = if nat_lt from to then (from, to - from) ∷ [] else []

abbrev pub between : ℕ → List Field → List (ℕ × ℕ)
between from [] = stretch from 32
between from (field ∷ fields) = stretch from (first_bit field) ++ between (first_bit field + bit_count field) fields
