-- Rights pass outwards: whoever is within the rights of a value is within those of each value that this one is within the rights of,
-- and opens nothing that it does not open.
use Rattle.std.proofs.Common.{◌≡◌, ℕ, Bool, true, false, ◌&&◌, eqb, sym, ap, ◌∙◌, ◌⊎◌, inl, inr, refl, subst, arith, IsTrue, ◌↔◌}
use Rattle.std.specs.Prelude.{bit_and}
use Rattle.std.specs.Bool.{beq}
use Rattle.std.specs.Int.Bits.{and_self}
use Rattle.std.proofs.lemmas.Nat.{and_comm, and_assoc}
use Rattle.std.proofs.lemmas.Bool.{and_from, and_parts, cases_Bool, eqb-true, eq-eqb}
use Rattle.cap_bounds.specs.CapValue.{CapValue, IsSound, is_tagged, is_sealed, value_perms, value_of, word_of}
use Rattle.cap_bounds.specs.RecordLaws.{value_of-word_of}
use Rattle.cap_rights.specs.declared.permission.Permission.{Permission}
use Rattle.cap_rights.specs.declared.permission.Permission.TheVariants as permission
use Rattle.cap_rights.specs.Permission.{permits}
use Rattle.cap_rights.specs.Perms.{set_of_one}
use Rattle.cap_rights.specs.PermsLaws.{permits-among}
use Rattle.cap_rights.specs.Derivations.{subset, equal_exact}
use Rattle.cap_rights.specs.DerivationLaws.{subset-IsWithin}
use Rattle.cap_rights.specs.Within.{IsWithin}
use Rattle.cap_rights.specs.Rights.{IsInRightsOf, OpensSystem, OpensGranule, OpensStore, OpensCapabilityStore, OpensKeeping, OpensByte}
use Rattle.cap_rights.specs.Rights.{OpensType}

-- ---- bounds and permissions

IsWithin-refl : (v : CapValue) → IsWithin v v
IsWithin-refl v = record { base = omega arith; top = omega arith; perms = and_self (value_perms v) }

perms-trans : (v c d : ℕ) → bit_and v c ≡ v → bit_and c d ≡ c → bit_and v d ≡ v
perms-trans v c d inner outer =
    ap (λ p. bit_and p d) (sym inner) ∙ and_assoc d v c ∙ ap (bit_and v) outer ∙ inner

IsWithin-trans : (v c d : CapValue) → IsWithin v c → IsWithin c d → IsWithin v d
IsWithin-trans v c d inner outer =
    let low = inner.base in
    let low' = outer.base in
    let high = inner.top in
    let high' = outer.top in
    record {
      base = omega arith;
      top = omega arith;
      perms = perms-trans (value_perms v) (value_perms c) (value_perms d) inner.perms outer.perms;
    }

-- a set among permissions that are among others is among these
set-outer : (v c s : ℕ) → bit_and v c ≡ v → bit_and v s ≡ s → bit_and c s ≡ s
set-outer v c s among has =
    ap (bit_and c) (sym has) ∙ sym (and_assoc s c v) ∙ ap (λ p. bit_and p s) (and_comm c v ∙ among) ∙ has

-- what a value permits, every value permits that it lies within
pub permits-outer : (v c : CapValue) (p : Permission) → IsWithin v c → permits v p ≡ true → permits c p ≡ true
permits-outer v c p within has =
    let s : ℕ = set_of_one p in
    let among : bit_and (value_perms v) s ≡ s = eqb-true _ _ (sym (permits-among v p) ∙ has) in
    permits-among c p ∙ eq-eqb _ _ (set-outer (value_perms v) (value_perms c) s within.perms among)

-- ---- rights

pub IsInRightsOf-refl : (v : CapValue) → IsInRightsOf v v
IsInRightsOf-refl v = record { of_unsealed = λ _. IsWithin-refl v; of_sealed = λ _. refl }

not_both : (b : Bool) → b ≡ true → b ≡ false → ⊥
not_both b t f = let same : true ≡ false = sym t ∙ f in cc

-- an unsealed value is within the rights of unsealed values alone
pub unsealed-outer : (v c : CapValue) → is_sealed v ≡ false → IsInRightsOf v c → (is_sealed c ≡ false) × IsWithin v c
unsealed-outer v c unsealed rights = elim (cases_Bool (is_sealed c)) [
  | inl closed ↦ absurd (not_both (is_sealed c) closed (sym (ap is_sealed (rights.of_sealed closed)) ∙ unsealed))
  | inr opened ↦ (opened, rights.of_unsealed opened)
]

pub IsInRightsOf-trans : (v c d : CapValue) → IsInRightsOf v c → IsInRightsOf c d → IsInRightsOf v d
IsInRightsOf-trans v c d inner outer = record {
  of_unsealed = λ unsealed. elim (cases_Bool (is_sealed c)) [
    | inl closed ↦ subst (λ x. IsWithin x d) (sym (inner.of_sealed closed)) (outer.of_unsealed unsealed)
    | inr opened ↦ IsWithin-trans v c d (inner.of_unsealed opened) (outer.of_unsealed unsealed)
  ];
  of_sealed = λ closed.
      let same = outer.of_sealed closed in
      inner.of_sealed (ap is_sealed same ∙ closed) ∙ same;
}

-- what a value permits, every value permits whose rights it is within
pub permits-in_rights : (v c : CapValue) (p : Permission) → IsInRightsOf v c → permits v p ≡ true → permits c p ≡ true
permits-in_rights v c p rights has = elim (cases_Bool (is_sealed c)) [
  | inl closed ↦ subst (λ x. permits x p ≡ true) (rights.of_sealed closed) has
  | inr opened ↦ permits-outer v c p (rights.of_unsealed opened) has
]

-- ---- what a value opens, every value opens whose rights it is within

module _ (v c : CapValue) where
  pub OpensSystem-outer : IsInRightsOf v c → OpensSystem v → OpensSystem c
  OpensSystem-outer rights opens =
      let outer = unsealed-outer v c opens.unsealed rights in
      record {
        unsealed = outer.0;
        executes = permits-outer v c permission.Execute outer.1 opens.executes;
        system = permits-outer v c permission.AccessSystemRegisters outer.1 opens.system;
      }

  pub OpensGranule-outer : (granule : ℕ) → IsInRightsOf v c → OpensGranule v granule → OpensGranule c granule
  OpensGranule-outer granule rights opens =
      let outer = unsealed-outer v c opens.unsealed rights in
      let within = outer.1 in
      let low = within.base in
      let high = within.top in
      let base = opens.base in
      let top = opens.top in
      record {
        unsealed = outer.0;
        loads = permits-outer v c permission.Load within opens.loads;
        capabilities = permits-outer v c permission.LoadCapability within opens.capabilities;
        base = omega arith;
        top = omega arith;
      }

  pub OpensStore-outer : (address : ℕ) → IsInRightsOf v c → OpensStore v address → OpensStore c address
  OpensStore-outer address rights opens =
      let outer = unsealed-outer v c opens.unsealed rights in
      let within = outer.1 in
      let low = within.base in
      let high = within.top in
      let base = opens.base in
      let top = opens.top in
      record {
        unsealed = outer.0;
        stores = permits-outer v c permission.Store within opens.stores;
        base = omega arith;
        top = omega arith;
      }

  pub OpensCapabilityStore-outer : (granule : ℕ) → IsInRightsOf v c → OpensCapabilityStore v granule → OpensCapabilityStore c granule
  OpensCapabilityStore-outer granule rights opens =
      let outer = unsealed-outer v c opens.unsealed rights in
      let within = outer.1 in
      let low = within.base in
      let high = within.top in
      let base = opens.base in
      let top = opens.top in
      record {
        unsealed = outer.0;
        stores = permits-outer v c permission.Store within opens.stores;
        capabilities = permits-outer v c permission.StoreCapability within opens.capabilities;
        base = omega arith;
        top = omega arith;
      }

  pub OpensKeeping-outer : (granule : ℕ) → IsInRightsOf v c → OpensKeeping v granule → OpensKeeping c granule
  OpensKeeping-outer granule rights opens = record {
    store = OpensCapabilityStore-outer granule rights opens.store;
    locals = permits-in_rights v c permission.StoreLocalCapability rights opens.locals;
  }

  reads-outer : IsWithin v c → (permits v permission.Load ≡ true) ⊎ (permits v permission.Execute ≡ true)
      → (permits c permission.Load ≡ true) ⊎ (permits c permission.Execute ≡ true)
  reads-outer within (inl loads) = inl (permits-outer v c permission.Load within loads)
  reads-outer within (inr executes) = inr (permits-outer v c permission.Execute within executes)

  pub OpensByte-outer : (address : ℕ) → IsInRightsOf v c → OpensByte v address → OpensByte c address
  OpensByte-outer address rights opens =
      let outer = unsealed-outer v c opens.unsealed rights in
      let within = outer.1 in
      let low = within.base in
      let high = within.top in
      let base = opens.base in
      let top = opens.top in
      record {
        unsealed = outer.0;
        reads = reads-outer within opens.reads;
        base = omega arith;
        top = omega arith;
      }

  pub OpensType-outer : (otype : ℕ) → IsInRightsOf v c → OpensType v otype → OpensType c otype
  OpensType-outer otype rights opens =
      let outer = unsealed-outer v c opens.unsealed rights in
      let within = outer.1 in
      let low = within.base in
      let high = within.top in
      let base = opens.base in
      let top = opens.top in
      record {
        unsealed = outer.0;
        seals = permits-outer v c permission.Seal within opens.seals;
        base = omega arith;
        top = omega arith;
      }

-- ---- the tests that decide it

-- a sealed capability: the tags and all bits are equal
pub equal_exact-in_rights : (v c : CapValue) → IsSound v → IsSound c → is_tagged v ≡ true → is_tagged c ≡ true → is_sealed c ≡ true
    → IsTrue (equal_exact v c) ↔ IsInRightsOf v c
unfolding equal_exact
equal_exact-in_rights v c sound outer_sound tagged outer_tagged closed = (
  λ t.
      let tag : is_tagged v ≡ is_tagged c = tagged ∙ sym outer_tagged in
      let word : word_of v ≡ word_of c = eqb-true _ _ (and_parts _ _ t).1 in
      let same : v ≡ c = sym (value_of-word_of v sound) ∙ ap (λ w. value_of w (is_tagged v)) word ∙ ap (value_of (word_of c)) tag
      ∙ value_of-word_of c outer_sound in
      record { of_unsealed = λ unsealed. absurd (not_both (is_sealed c) closed unsealed); of_sealed = λ _. same },
  λ rights.
      let same : v ≡ c = rights.of_sealed closed in
      subst (λ x. IsTrue (beq (is_tagged v) (is_tagged x) && eqb (word_of v) (word_of x))) same
      (and_from _ _ (rw tagged refl) (eq-eqb (word_of v) (word_of v) refl)),
)

-- an unsealed capability: the bounds and permissions lie within its own
pub subset-in_rights : (v c : CapValue) → is_tagged v ≡ true → is_tagged c ≡ true → is_sealed c ≡ false
    → IsTrue (subset c v) ↔ IsInRightsOf v c
subset-in_rights v c tagged outer_tagged unsealed = (
  λ t. record {
    of_unsealed = λ _. ((subset-IsWithin c v).0 t).1;
    of_sealed = λ closed. absurd (not_both (is_sealed c) closed unsealed);
  },
  λ rights. (subset-IsWithin c v).1 (outer_tagged ∙ sym tagged, rights.of_unsealed unsealed),
)
