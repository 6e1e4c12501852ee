-- What each row over capabilities but CUnseal gives with its tag is made of its first operand.
use Rattle.std.proofs.Common.{◌≡◌, ℕ, true, inl, inr, refl, sym, subst}
use Rattle.cap_bounds.specs.CapValue.{CapValue, IsSound, is_tagged, value_base, value_address}
use Rattle.cap_bounds.specs.SetBounds.{with_bounds, bounds_exact}
use Rattle.cap_rights.specs.Perms.{perms_in_view}
use Rattle.cap_rights.specs.Rights.{IsInRightsOf}
use Rattle.cap_rights.specs.Derived.{IsDerivedIfTagged, IsMadeOf}
use Rattle.cap_rights.specs.DerivedLaws.{derived-self, derived-tagged_if, derived-at_address, derived-with_bounds, derived-and_perms}
use Rattle.cap_rights.specs.DerivedLaws.{derived-set_flags, derived-seal_entry, sealed-seal, in_rights-made}
use Rattle.isa_rows.specs.declared.operands.Insn.{Insn}
use Rattle.isa_rows.specs.declared.rows.Row.{Row}
use Rattle.isa_rows.specs.declared.rows.Row.TheVariants as row
use Rattle.cap_insns.specs.CapabilityRows.{sum, with_exact_bounds, row_value}

derived-with_exact_bounds : (v : CapValue) (length : ℕ) → IsSound v → IsDerivedIfTagged (with_exact_bounds v length) v
unfolding with_exact_bounds
derived-with_exact_bounds v length sound =
    derived-tagged_if (bounds_exact v length) (with_bounds v length) v (λ _. derived-with_bounds v length sound)

-- (a number is no capability)
pub made-row_value : (r : Row) (insn : Insn) (cs1 cs2 ddc : CapValue) → IsSound cs1 → (r ≡ row.CUnseal → ⊥)
    → is_tagged (row_value r insn cs1 cs2 ddc) ≡ true → IsMadeOf (row_value r insn cs1 cs2 ddc) cs1 cs2
unfolding row_value
made-row_value row.CIncOffsetImm insn cs1 cs2 ddc sound other tagged =
    inl (derived-at_address cs1 (sum (value_address cs1) insn.imm) tagged)
made-row_value row.CSetBoundsImm insn cs1 cs2 ddc sound other tagged = inl (derived-with_bounds cs1 insn.imm sound tagged)
made-row_value row.CSetBounds insn cs1 cs2 ddc sound other tagged = inl (derived-with_bounds cs1 (value_address cs2) sound tagged)
made-row_value row.CSetBoundsExact insn cs1 cs2 ddc sound other tagged =
    inl (derived-with_exact_bounds cs1 (value_address cs2) sound tagged)
made-row_value row.CSeal insn cs1 cs2 ddc sound other tagged = inr (sealed-seal cs1 cs2 tagged)
made-row_value row.CUnseal insn cs1 cs2 ddc sound other tagged = absurd (other refl)
made-row_value row.CAndPerm insn cs1 cs2 ddc sound other tagged = inl (derived-and_perms cs1 (perms_in_view (value_address cs2)) tagged)
made-row_value row.CSetFlags insn cs1 cs2 ddc sound other tagged = inl (derived-set_flags cs1 _ tagged)
made-row_value row.CSetOffset insn cs1 cs2 ddc sound other tagged =
    inl (derived-at_address cs1 (sum (value_base cs1) (value_address cs2)) tagged)
made-row_value row.CSetAddr insn cs1 cs2 ddc sound other tagged = inl (derived-at_address cs1 (value_address cs2) tagged)
made-row_value row.CIncOffset insn cs1 cs2 ddc sound other tagged =
    inl (derived-at_address cs1 (sum (value_address cs1) (value_address cs2)) tagged)
made-row_value row.CSub insn cs1 cs2 ddc sound other tagged = cc
made-row_value row.CTestSubset insn cs1 cs2 ddc sound other tagged = cc
made-row_value row.CSetEqualExact insn cs1 cs2 ddc sound other tagged = cc
made-row_value row.CGetPerm insn cs1 cs2 ddc sound other tagged = cc
made-row_value row.CGetType insn cs1 cs2 ddc sound other tagged = cc
made-row_value row.CGetBase insn cs1 cs2 ddc sound other tagged = cc
made-row_value row.CGetLen insn cs1 cs2 ddc sound other tagged = cc
made-row_value row.CGetTag insn cs1 cs2 ddc sound other tagged = cc
made-row_value row.CGetSealed insn cs1 cs2 ddc sound other tagged = cc
made-row_value row.CGetOffset insn cs1 cs2 ddc sound other tagged = cc
made-row_value row.CGetFlags insn cs1 cs2 ddc sound other tagged = cc
made-row_value row.Crrl insn cs1 cs2 ddc sound other tagged = cc
made-row_value row.Cram insn cs1 cs2 ddc sound other tagged = cc
made-row_value row.CMove insn cs1 cs2 ddc sound other tagged = inl (derived-self cs1 tagged)
made-row_value row.CClearTag insn cs1 cs2 ddc sound other tagged = cc
made-row_value row.CGetAddr insn cs1 cs2 ddc sound other tagged = cc
made-row_value row.CSealEntry insn cs1 cs2 ddc sound other tagged = inl (derived-seal_entry cs1 tagged)
made-row_value _ insn cs1 cs2 ddc sound other tagged = inl (derived-self cs1 tagged)

-- so it is within that operand's rights
pub in_rights-row_value : (r : Row) (insn : Insn) (cs1 cs2 ddc v : CapValue) → IsSound cs1 → v ≡ row_value r insn cs1 cs2 ddc
    → (r ≡ row.CUnseal → ⊥) → is_tagged v ≡ true → IsInRightsOf v cs1
in_rights-row_value r insn cs1 cs2 ddc v sound same other tagged =
    let made = made-row_value r insn cs1 cs2 ddc sound other (subst (λ x. is_tagged x ≡ true) same tagged) in
    subst (λ x. IsInRightsOf x cs1) (sym same) (in_rights-made (row_value r insn cs1 cs2 ddc) cs1 cs2 made)
