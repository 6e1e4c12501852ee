-- The numbers that an operand can be.
use Rattle.std.specs.Prelude.{ℕ, ◌-◌, ◌*◌, ◌^◌, Bool, not, ◌&&◌, min, ℤ, pos, neg_ℤ, int_lt}
use Rattle.isa_rows.specs.declared.slots.Slot.{Slot}
use Rattle.isa_rows.specs.declared.slots.Slot.TheVariants.{Signed, Unsigned, Upper, Small, Csr, Special, Address}
use Rattle.asm_lines.specs.declared.ranges.Range.{Range}

abbrev pub range : ℤ → ℤ → Range
range least most = record { least = least; most = most }

abbrev pub natural : ℕ → Range
natural most = range (pos 0) (pos most)

-- a signed number of 12 bits
abbrev pub signed : Range
signed = range (neg_ℤ (pos 2048)) (pos 2047)

-- what all numbers lie between
abbrev pub every_number : Range
every_number = range (neg_ℤ (pos (2 ^ 63))) (pos (2 ^ 64 - 1))

-- a value of so many bytes: from the least signed to the greatest unsigned number of its size
abbrev pub value_range : ℕ → Range
value_range size = range (neg_ℤ (pos (2 ^ (8 * size - 1)))) (pos (2 ^ (8 * size) - 1))

abbrev pub is_within : Range → ℤ → Bool
is_within r n = not (int_lt n r.least) && not (int_lt r.most n)

-- the most that so many bits hold; a number has at most 64
abbrev pub most_of : ℕ → ℕ
most_of bits = 2 ^ min bits 64 - 1

-- of a row's operand; of one that is no number, all numbers
abbrev pub slot_range : Slot → Range
slot_range Signed = signed
slot_range (Address naming) = signed
slot_range (Unsigned bits) = natural (most_of bits)
slot_range Upper = natural 0xFFFFF
slot_range Small = natural 31
slot_range Csr = natural 4095
slot_range Special = natural 31
slot_range other = every_number
