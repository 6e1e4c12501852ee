-- What is made of capabilities, and how two are compared (UCAM-CL-TR-987: CAndPerm, CSetFlags, CSeal, CUnseal, CSealEntry,
-- CTestSubset, CSetEqualExact).
--
-- A derivation that may not be made answers the fields that success would have given, without the tag, and doesn't trap. Of data
-- it answers data: the bits with these fields.
use Rattle.std.specs.Prelude.{ℕ, ◌%◌, ◌^◌, Bool, ◌&&◌, not, nat_le, nat_lt, ◌==◌, if◌then◌else◌, bit_and}
use Rattle.std.specs.Bool.{beq}
use Rattle.base.specs.Bits.{bit}
use Rattle.cap_format.specs.Word.{with_field}
use Rattle.base.specs.ObjectType.{unsealed_type, sentry_type}
use Rattle.cap_bounds.specs.CapValue.{CapValue, Cap, Data, is_tagged, word_of, value_base, value_top, value_address, value_perms}
use Rattle.cap_bounds.specs.CapValue.{value_otype, is_sealed, without_tag}
use Rattle.cap_rights.specs.declared.permission.Permission.TheVariants.{Global, Execute, Seal, Unseal}
use Rattle.cap_rights.specs.Permission.{permits}
use Rattle.cap_rights.specs.ObjectType.{greatest_sealing_type}
use Rattle.cap_rights.specs.Opened.{with_type}

-- the value if it may be had, else its bits without the tag
abbrev pub tagged_if : Bool → CapValue → CapValue
tagged_if may v = if may then v else without_tag v

-- the value with these permissions, and its tag as it is
abbrev pub with_perms : CapValue → ℕ → CapValue
with_perms (Cap r) perms = Cap (record r { perms = perms })
with_perms (Data n) perms = Data (with_field n 112 16 perms)

-- the value with this flag, and its tag as it is
abbrev pub with_flag : CapValue → Bool → CapValue
with_flag (Cap r) flag = Cap (record r { flag = flag })
with_flag (Data n) flag = Data (with_field n 109 1 (bit flag))

-- ---- permissions and the flag

-- CAndPerm: the permissions that the mask has too
unfoldable pub and_perms : CapValue → ℕ → CapValue
and_perms v mask = tagged_if (not (is_sealed v)) (with_perms v (bit_and (value_perms v) mask))

-- CSetFlags
unfoldable pub set_flags : CapValue → Bool → CapValue
set_flags v flag = tagged_if (not (is_sealed v)) (with_flag v flag)

-- ---- seals

-- the address is one of the value's bounds
abbrev pub address_in_bounds : CapValue → ℕ → Bool
address_in_bounds v address = nat_le (value_base v) address && nat_lt address (value_top v)

-- the authority may seal with the type that its address names
unfoldable pub may_seal : CapValue → CapValue → Bool
may_seal v authority =
    is_tagged v
    && is_tagged authority
    && not (is_sealed v)
    && not (is_sealed authority)
    && permits authority Seal
    && address_in_bounds authority (value_address authority)
    && nat_le (value_address authority) greatest_sealing_type

-- CSeal
unfoldable pub seal : CapValue → CapValue → CapValue
seal v authority = tagged_if (may_seal v authority) (with_type v (value_address authority % 2 ^ 18))

-- the authority may unseal what has the type that its address names
unfoldable pub may_unseal : CapValue → CapValue → Bool
may_unseal v authority =
    is_tagged v
    && is_tagged authority
    && nat_le (value_otype v) greatest_sealing_type
    && not (is_sealed authority)
    && permits authority Unseal
    && address_in_bounds authority (value_address authority)
    && (value_address authority == value_otype v)

-- the value's permissions, Global only if both have it
unfoldable pub unsealed_perms : CapValue → CapValue → ℕ
unsealed_perms v authority = if permits authority Global then value_perms v else bit_and (value_perms v) 0xfffe

-- CUnseal
unfoldable pub unseal : CapValue → CapValue → CapValue
unseal v authority = tagged_if (may_unseal v authority) (with_type (with_perms v (unsealed_perms v authority)) unsealed_type)

-- CSealEntry
unfoldable pub seal_entry : CapValue → CapValue
seal_entry v = tagged_if (is_tagged v && not (is_sealed v) && permits v Execute) (with_type v sentry_type)

-- ---- comparisons

-- the value's bounds and its 16 permissions lie within those of another
unfoldable pub is_within : CapValue → CapValue → Bool
is_within v outer =
    nat_le (value_base outer) (value_base v)
    && nat_le (value_top v) (value_top outer)
    && (bit_and (value_perms v) (value_perms outer) == value_perms v)

-- CTestSubset: the second lies within the first
unfoldable pub subset : CapValue → CapValue → Bool
subset outer v = beq (is_tagged outer) (is_tagged v) && is_within v outer

-- CSetEqualExact: the tags and all 128 bits are equal
unfoldable pub equal_exact : CapValue → CapValue → Bool
equal_exact a b = beq (is_tagged a) (is_tagged b) && (word_of a == word_of b)
