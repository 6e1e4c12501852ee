-- What unsealing, sealing and opening make of Global.
use Rattle.std.proofs.Common.{◌≡◌, ℕ, Bool, true, false, eqb, cond, refl, sym, ap, ◌∙◌}
use Rattle.std.specs.Prelude.{bit_and}
use Rattle.std.proofs.lemmas.Nat.{and_comm, and_assoc}
use Rattle.cap_bounds.specs.CapValue.{CapValue, Cap, Data, is_tagged, value_perms}
use Rattle.cap_rights.specs.declared.permission.Permission.{Permission}
use Rattle.cap_rights.specs.declared.permission.Permission.TheVariants as permission
use Rattle.cap_rights.specs.Permission.{permits}
use Rattle.cap_rights.specs.PermsLaws.{permits-among}
use Rattle.cap_rights.specs.Derivations.{tagged_if, with_perms, unsealed_perms, unseal, may_unseal, seal, seal_entry}
use Rattle.cap_rights.specs.DerivationLaws.{IsWithin-unseal}
use Rattle.cap_rights.specs.Opened.{with_type, opened}
use Rattle.cap_rights.specs.RightsLaws.{permits-outer}

-- of the same permissions
permits-typed : (v : CapValue) (otype : ℕ) (p : Permission) → is_tagged v ≡ true → permits (with_type v otype) p ≡ permits v p
unfolding permits
permits-typed (Cap r) otype p tagged = refl
permits-typed (Data n) otype p tagged = cc

pub permits-opened : (v : CapValue) (p : Permission) → is_tagged v ≡ true → permits (opened v) p ≡ permits v p
unfolding opened
permits-opened v p tagged = permits-typed v _ p tagged

tagged-typed : (v : CapValue) (otype : ℕ) → is_tagged (with_type v otype) ≡ true → is_tagged v ≡ true
tagged-typed (Cap r) otype tagged = refl
tagged-typed (Data n) otype tagged = cc

permits-if : (may : Bool) (v : CapValue) (otype : ℕ) (p : Permission) → is_tagged (tagged_if may (with_type v otype)) ≡ true
    → permits (tagged_if may (with_type v otype)) p ≡ permits v p
permits-if true v otype p tagged = permits-typed v otype p (tagged-typed v otype tagged)
permits-if false v otype p tagged = cc

pub permits-sealed : (v key : CapValue) (p : Permission) → is_tagged (seal v key) ≡ true → permits (seal v key) p ≡ permits v p
unfolding seal
permits-sealed v key p tagged = permits-if _ v _ p tagged

pub permits-entry : (v : CapValue) (p : Permission) → is_tagged (seal_entry v) ≡ true → permits (seal_entry v) p ≡ permits v p
unfolding seal_entry
permits-entry v p tagged = permits-if _ v _ p tagged

-- ---- CUnseal

-- without bit 0 there is no Global
masked-none : (perms : ℕ) → eqb (bit_and (bit_and perms 0xfffe) 1) 1 ≡ false
masked-none perms = ap (λ n. eqb n 1) (and_assoc 1 perms 0xfffe ∙ and_comm perms 0)

not-masked : (v : CapValue) (perms otype : ℕ) → is_tagged v ≡ true
    → permits (with_type (with_perms v (bit_and perms 0xfffe)) otype) permission.Global ≡ false
not-masked (Cap r) perms otype tagged =
    permits-among (with_type (with_perms (Cap r) (bit_and perms 0xfffe)) otype) permission.Global ∙ masked-none perms
not-masked (Data n) perms otype tagged = cc

key-global : (may : Bool) (v : CapValue) (otype : ℕ) (global : Bool)
    → is_tagged (tagged_if may (with_type (with_perms v (cond global (value_perms v) (bit_and (value_perms v) 0xfffe))) otype)) ≡ true
    → permits (tagged_if may (with_type (with_perms v (cond global (value_perms v) (bit_and (value_perms v) 0xfffe))) otype))
    permission.Global ≡ true → global ≡ true
key-global may v otype true tagged has = refl
key-global false v otype false tagged has = cc
key-global true (Data n) otype false tagged has = cc
key-global true (Cap r) otype false tagged has =
    let never : true ≡ false = sym has ∙ not-masked (Cap r) r.perms otype refl in cc

pub unsealed-global : (v key : CapValue) → is_tagged (unseal v key) ≡ true → permits (unseal v key) permission.Global ≡ true
    → (permits v permission.Global ≡ true) × (permits key permission.Global ≡ true)
unfolding unseal unsealed_perms
unsealed-global v key tagged has = (
  permits-outer (unseal v key) v permission.Global (IsWithin-unseal v key tagged) has,
  key-global (may_unseal v key) v _ (permits key permission.Global) tagged has,
)
