-- The fields of a 128-bit capability word in logical form (UCAM-CL-TR-987, CHERI Concentrate, 128-bit format for 64-bit addresses).
-- A word is a number below 2 ^ 128.
--
--   127..112  permissions: user 127..124, hardware permission i at 112 + i
--   111..110  reserved
--   109       flag
--   108..91   object type
--   90        IE, the internal exponent bit
--   89..78    T, the low 12 bits of the top's mantissa
--   77..64    B, the 14 bits of the base's mantissa
--   63..0     address
use Rattle.std.specs.Prelude.{ℕ, ◌+◌, ◌*◌, ◌/◌, ◌%◌, ◌^◌, Bool, ◌==◌, List, bit_xor}
use Rattle.std.specs.Int.{w128, to_le_bytes, from_le_bytes}
use Rattle.base.specs.Bits.{field}

abbrev pub address_of : ℕ → ℕ
address_of word = word % 2 ^ 64

-- the 14 bits of B as they stand in the word
abbrev pub b_field_of : ℕ → ℕ
b_field_of word = field word 64 14

-- the 12 bits of T as they stand in the word
abbrev pub t_field_of : ℕ → ℕ
t_field_of word = field word 78 12

abbrev pub ie_of : ℕ → Bool
ie_of word = field word 90 1 == 1

abbrev pub otype_of : ℕ → ℕ
otype_of word = field word 91 18

abbrev pub flag_of : ℕ → Bool
flag_of word = field word 109 1 == 1

-- hardware permissions at bits 0 to 11, user permissions at bits 12 to 15
abbrev pub perms_of : ℕ → ℕ
perms_of word = field word 112 16

-- the word with bits k to k + m - 1 replaced by those of v, and no other bit changed
abbrev pub with_field : ℕ → ℕ → ℕ → ℕ → ℕ
with_field word k m v = word / 2 ^ (k + m) * 2 ^ (k + m) + v * 2 ^ k + word % 2 ^ k

abbrev pub with_address_of : ℕ → ℕ → ℕ
with_address_of word address = word / 2 ^ 64 * 2 ^ 64 + address

-- null: no permission, no flag, the type that is no seal, root's bounds and address 0. A word in memory is its exclusive or with null,
-- so that null is all zeros there.
abbrev pub null_word : ℕ
null_word = 0x1fff_fc01_8004 * 2 ^ 64

-- the 16 bytes of a word in memory, the lowest first
abbrev pub memory_bytes : ℕ → List ℕ
memory_bytes word = to_le_bytes w128 (bit_xor word null_word)

-- the word that 16 bytes of memory are
abbrev pub word_of_memory : List ℕ → ℕ
word_of_memory bytes = bit_xor (from_le_bytes w128 bytes) null_word
