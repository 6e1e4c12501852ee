-- Each row over capabilities gives a sound value of sound values.
use Rattle.std.proofs.Common.{◌≡◌, ℕ, ◌+◌, ◌-◌, ◌*◌, ◌/◌, ◌%◌, ◌^◌, ◌<◌, Bool, eqb, arith, lit<}
use Rattle.std.proofs.lemmas.Nat.{mod_below, pow_pos}
use Rattle.std.proofs.lemmas.Bool.{cond_both, eqb-true}
use Rattle.base.specs.Bits.{bit}
use Rattle.cap_bounds.specs.CapValue.{CapValue, IsSound, is_tagged, is_sealed, value_base, value_top, value_address, value_perms}
use Rattle.cap_bounds.specs.CapValue.{value_flag, value_otype, integer}
use Rattle.cap_bounds.specs.WordLaws.{bit-small}
use Rattle.cap_bounds.specs.SetBounds.{with_bounds, bounds_exact}
use Rattle.cap_bounds.specs.Rounding.{granules_up_to, length_granule}
use Rattle.cap_bounds.specs.RoundingLaws.{rounding_granule-positive}
use Rattle.cap_bounds.specs.SoundLaws.{value_address-below, value_perms-below, value_otype-below, value_base-below, word_of-below}
use Rattle.cap_bounds.specs.SoundLaws.{IsSound-integer, IsSound-at_address, IsSound-with_bounds}
use Rattle.cap_rights.specs.Derivations.{subset, equal_exact}
use Rattle.cap_rights.specs.DerivationLaws.{IsSound-tagged_if, IsSound-and_perms, IsSound-set_flags, IsSound-seal, IsSound-unseal}
use Rattle.cap_rights.specs.DerivationLaws.{IsSound-seal_entry}
use Rattle.cap_rights.specs.ObjectType.{signed_type}
use Rattle.cap_rights.specs.Perms.{hardware_view, perms_in_view}
use Rattle.isa_rows.specs.declared.operands.Insn.{Insn}
use Rattle.isa_rows.specs.declared.rows.Row.{Row}
use Rattle.isa_rows.specs.declared.rows.Row.TheVariants as row
use Rattle.cap_insns.specs.CapabilityRows.{length_of, representable_length, alignment_mask, with_exact_bounds, outer_of, row_value}

-- ---- numbers

modulo-below : (n : ℕ) → n % 2 ^ 64 < 2 ^ 64
modulo-below n = mod_below n (2 ^ 64) (pow_pos 64)

hardware_view-below : (perms : ℕ) → perms < 2 ^ 16 → hardware_view perms < 2 ^ 64
unfolding hardware_view
hardware_view-below perms fits = omega arith

signed_type-below : (otype : ℕ) → otype < 2 ^ 18 → signed_type otype < 2 ^ 64
unfolding signed_type
signed_type-below otype fits =
    cond_both _ (otype + 2 ^ 64 - 2 ^ 18) otype (λ n. n < 2 ^ 64) (λ _. omega arith) (λ _. omega arith)

length-below : (bytes : ℕ) → (bytes / 2 ^ 64 ≡ 0) → bytes < 2 ^ 64
length-below bytes none = omega arith

length_of-below : (v : CapValue) → length_of v < 2 ^ 64
unfolding length_of
length_of-below v =
    let bytes : ℕ = (value_top v + 2 ^ 65 - value_base v) % 2 ^ 65 in
    cond_both (eqb (bytes / 2 ^ 64) 0) bytes (2 ^ 64 - 1) (λ n. n < 2 ^ 64) (λ e. length-below bytes (eqb-true _ _ e)) (λ _. lit< tt)

representable_length-below : (length : ℕ) → representable_length length < 2 ^ 64
unfolding representable_length
representable_length-below length = modulo-below (granules_up_to (length_granule length) length * length_granule length)

alignment_mask-below : (length : ℕ) → alignment_mask length < 2 ^ 64
unfolding alignment_mask
alignment_mask-below length = let some : 0 < length_granule length = rounding_granule-positive 0 length in omega arith

-- an integer that fits, and a truth value
truth : (b : Bool) → IsSound (integer (bit b))
truth b = let small = bit-small b in IsSound-integer (bit b) (omega arith)

-- ---- the rows

IsSound-with_exact_bounds : (v : CapValue) (length : ℕ) → IsSound v → length < 2 ^ 64 → IsSound (with_exact_bounds v length)
unfolding with_exact_bounds
IsSound-with_exact_bounds v length sound short = IsSound-tagged_if (bounds_exact v length) (with_bounds v length)
    (IsSound-with_bounds v length sound short)

pub IsSound-row_value : (r : Row) (insn : Insn) (cs1 cs2 ddc : CapValue) → insn.imm < 2 ^ 64 → IsSound cs1 → IsSound cs2
    → IsSound (row_value r insn cs1 cs2 ddc)
unfolding row_value
IsSound-row_value row.CIncOffsetImm insn cs1 cs2 ddc fits one two =
    IsSound-at_address cs1 _ one (modulo-below (value_address cs1 + insn.imm))
IsSound-row_value row.CSetBoundsImm insn cs1 cs2 ddc fits one two = IsSound-with_bounds cs1 insn.imm one fits
IsSound-row_value row.CSetBounds insn cs1 cs2 ddc fits one two =
    IsSound-with_bounds cs1 (value_address cs2) one (value_address-below cs2 two)
IsSound-row_value row.CSetBoundsExact insn cs1 cs2 ddc fits one two = IsSound-with_exact_bounds cs1 (value_address cs2) one
    (value_address-below cs2 two)
IsSound-row_value row.CSeal insn cs1 cs2 ddc fits one two = IsSound-seal cs1 cs2 one
IsSound-row_value row.CUnseal insn cs1 cs2 ddc fits one two = IsSound-unseal cs1 cs2 one
IsSound-row_value row.CAndPerm insn cs1 cs2 ddc fits one two = IsSound-and_perms cs1 (perms_in_view (value_address cs2)) one
IsSound-row_value row.CSetFlags insn cs1 cs2 ddc fits one two = IsSound-set_flags cs1 (eqb (value_address cs2 % 2) 1) one
IsSound-row_value row.CSetOffset insn cs1 cs2 ddc fits one two = IsSound-at_address cs1 _ one
    (modulo-below (value_base cs1 + value_address cs2))
IsSound-row_value row.CSetAddr insn cs1 cs2 ddc fits one two = IsSound-at_address cs1 _ one (value_address-below cs2 two)
IsSound-row_value row.CIncOffset insn cs1 cs2 ddc fits one two = IsSound-at_address cs1 _ one
    (modulo-below (value_address cs1 + value_address cs2))
IsSound-row_value row.CSub insn cs1 cs2 ddc fits one two = IsSound-integer _ (modulo-below (value_address cs1 + 2 ^ 64 - value_address cs2))
IsSound-row_value row.CTestSubset insn cs1 cs2 ddc fits one two = truth (subset (outer_of insn.rs1 cs1 ddc) cs2)
IsSound-row_value row.CSetEqualExact insn cs1 cs2 ddc fits one two = truth (equal_exact cs1 cs2)
IsSound-row_value row.CGetPerm insn cs1 cs2 ddc fits one two = IsSound-integer _
    (hardware_view-below (value_perms cs1) (value_perms-below cs1 one))
IsSound-row_value row.CGetType insn cs1 cs2 ddc fits one two = IsSound-integer _
    (signed_type-below (value_otype cs1) (value_otype-below cs1 one))
IsSound-row_value row.CGetBase insn cs1 cs2 ddc fits one two = IsSound-integer _ (value_base-below cs1 one)
IsSound-row_value row.CGetLen insn cs1 cs2 ddc fits one two = IsSound-integer _ (length_of-below cs1)
IsSound-row_value row.CGetTag insn cs1 cs2 ddc fits one two = truth (is_tagged cs1)
IsSound-row_value row.CGetSealed insn cs1 cs2 ddc fits one two = truth (is_sealed cs1)
IsSound-row_value row.CGetOffset insn cs1 cs2 ddc fits one two =
    IsSound-integer _ (modulo-below (value_address cs1 + 2 ^ 64 - value_base cs1))
IsSound-row_value row.CGetFlags insn cs1 cs2 ddc fits one two = truth (value_flag cs1)
IsSound-row_value row.Crrl insn cs1 cs2 ddc fits one two = IsSound-integer _ (representable_length-below (value_address cs1))
IsSound-row_value row.Cram insn cs1 cs2 ddc fits one two = IsSound-integer _ (alignment_mask-below (value_address cs1))
IsSound-row_value row.CMove insn cs1 cs2 ddc fits one two = one
IsSound-row_value row.CClearTag insn cs1 cs2 ddc fits one two = word_of-below cs1 one
IsSound-row_value row.CGetAddr insn cs1 cs2 ddc fits one two = IsSound-integer _ (value_address-below cs1 one)
IsSound-row_value row.CSealEntry insn cs1 cs2 ddc fits one two = IsSound-seal_entry cs1 one
IsSound-row_value _ insn cs1 cs2 ddc fits one two = one
