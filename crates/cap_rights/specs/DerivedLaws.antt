-- What each derivation makes of a value, if it keeps its tag, is derived from it; what CSeal makes is sealed with its authority.
use Rattle.std.proofs.Common.{◌≡◌, ℕ, ◌%◌, ◌^◌, ◌≤◌, ◌<◌, Bool, true, false, not, ◌&&◌, inl, inr, refl, sym, subst, arith}
use Rattle.std.specs.Int.Bits.{and_self}
use Rattle.std.specs.Prelude.{bit_and}
use Rattle.std.proofs.lemmas.Bool.{and_parts, both_ways, cases_Bool, cond_both, leb-true, ltb-true, not-true}
use Rattle.std.proofs.Math.Nat.{mod-eq_of_lt}
use Rattle.base.specs.ObjectType.{unsealed_type, sentry_type}
use Rattle.cap_bounds.specs.CapValue.{CapValue, Cap, Data, IsSound, is_tagged, is_sealed, value_base, value_top, value_address, value_perms}
use Rattle.cap_bounds.specs.Record.{window_holds}
use Rattle.cap_bounds.specs.SetAddress.{at_address, data_at}
use Rattle.cap_bounds.specs.SetBounds.{may_bound, bounded, with_bounds, LiesWithin}
use Rattle.cap_bounds.specs.SetBoundsLaws.{with_bounds-set, with_bounds-refused, within-with_bounds}
use Rattle.cap_rights.specs.declared.permission.Permission.TheVariants.{Execute, Seal}
use Rattle.cap_rights.specs.Permission.{permits}
use Rattle.cap_rights.specs.ObjectType.{greatest_sealing_type}
use Rattle.cap_rights.specs.Opened.{with_type, opened}
use Rattle.cap_rights.specs.Derivations.{tagged_if, with_perms, with_flag, and_perms, set_flags, may_seal, seal, seal_entry}
use Rattle.cap_rights.specs.DerivationLaws.{IsWithin-with_perms, IsWithin-with_flag, IsWithin-with_type}
use Rattle.cap_rights.specs.Within.{IsWithin}
use Rattle.cap_rights.specs.Rights.{IsInRightsOf, OpensType}
use Rattle.cap_rights.specs.RightsLaws.{IsInRightsOf-refl}
use Rattle.cap_rights.specs.Derived.{IsDerived, IsDerivedIfTagged, IsSealedWith, IsMadeOf}

-- ---- parts

-- within an unsealed value
pub in_rights-unsealed : (v c : CapValue) → is_sealed c ≡ false → IsWithin v c → IsInRightsOf v c
in_rights-unsealed v c unsealed within = record {
  of_unsealed = λ _. within;
  of_sealed = λ closed. absurd (both_ways (is_sealed c) unsealed closed);
}

-- an unsealed value with no more bounds and permissions, unsealed still
derived-unsealed : (v c : CapValue) → is_tagged c ≡ true → is_sealed c ≡ false → IsWithin v c → is_sealed v ≡ false → IsDerived v c
derived-unsealed v c tagged unsealed within still = record {
  tagged = tagged;
  within = in_rights-unsealed v c unsealed within;
  seal = λ closed. absurd (both_ways (is_sealed v) still closed);
}

pub derived-tagged_if : (may : Bool) (v c : CapValue) → (may ≡ true → IsDerivedIfTagged v c) → IsDerivedIfTagged (tagged_if may v) c
derived-tagged_if true v c derived = derived refl
derived-tagged_if false v c derived = λ tagged. cc

pub derived-self : (v : CapValue) → IsDerivedIfTagged v v
derived-self v = λ tagged. record { tagged = tagged; within = IsInRightsOf-refl v; seal = λ _. inl refl }

-- ---- another address, permissions, flag

pub derived-at_address : (v : CapValue) (address : ℕ) → IsDerivedIfTagged (at_address v address) v
unfolding at_address
derived-at_address (Cap r) address =
    cond_both (not (is_sealed (Cap r)) && window_holds r address) (Cap (record r { address = address })) (data_at (Cap r) address)
    (λ v. IsDerivedIfTagged v (Cap r))
    (λ may. λ _.
    let unsealed : is_sealed (Cap r) ≡ false = not-true _ (and_parts (not (is_sealed (Cap r))) (window_holds r address) may).0 in
    derived-unsealed (Cap (record r { address = address })) (Cap r) refl unsealed
    (record { base = omega arith; top = omega arith; perms = and_self r.perms }) unsealed)
    (λ _. λ tagged. cc)
derived-at_address (Data n) address = λ tagged. cc

derived-with_perms : (v : CapValue) (mask : ℕ) → is_sealed v ≡ false → IsDerivedIfTagged (with_perms v (bit_and (value_perms v) mask)) v
derived-with_perms (Cap r) mask unsealed = λ _.
    derived-unsealed (with_perms (Cap r) (bit_and r.perms mask)) (Cap r) refl unsealed (IsWithin-with_perms (Cap r) mask refl) unsealed
derived-with_perms (Data n) mask unsealed = λ tagged. cc

pub derived-and_perms : (v : CapValue) (mask : ℕ) → IsDerivedIfTagged (and_perms v mask) v
unfolding and_perms
derived-and_perms v mask =
    derived-tagged_if (not (is_sealed v)) (with_perms v (bit_and (value_perms v) mask)) v
    (λ may. derived-with_perms v mask (not-true (is_sealed v) may))

derived-with_flag : (v : CapValue) (flag : Bool) → is_sealed v ≡ false → IsDerivedIfTagged (with_flag v flag) v
derived-with_flag (Cap r) flag unsealed = λ _.
    derived-unsealed (with_flag (Cap r) flag) (Cap r) refl unsealed (IsWithin-with_flag (Cap r) flag refl) unsealed
derived-with_flag (Data n) flag unsealed = λ tagged. cc

pub derived-set_flags : (v : CapValue) (flag : Bool) → IsDerivedIfTagged (set_flags v flag) v
unfolding set_flags
derived-set_flags v flag =
    derived-tagged_if (not (is_sealed v)) (with_flag v flag) v (λ may. derived-with_flag v flag (not-true (is_sealed v) may))

-- ---- another type

derived-sentry : (v : CapValue) → is_sealed v ≡ false → IsDerivedIfTagged (with_type v sentry_type) v
derived-sentry (Cap r) unsealed = λ _. record {
  tagged = refl;
  within = in_rights-unsealed (with_type (Cap r) sentry_type) (Cap r) unsealed (IsWithin-with_type (Cap r) sentry_type refl);
  seal = λ _. inr refl;
}
derived-sentry (Data n) unsealed = λ tagged. cc

pub derived-seal_entry : (v : CapValue) → IsDerivedIfTagged (seal_entry v) v
unfolding seal_entry
derived-seal_entry v =
    derived-tagged_if (is_tagged v && not (is_sealed v) && permits v Execute) (with_type v sentry_type) v
    (λ may. derived-sentry v
    (not-true (is_sealed v) (and_parts (is_tagged v) (not (is_sealed v)) (and_parts _ (permits v Execute) may).0).1))

-- a value that isn't sealed stays what it is when it is opened
pub derived-opened : (v : CapValue) → is_sealed v ≡ false → IsDerivedIfTagged (opened v) v
unfolding opened
derived-opened (Cap r) unsealed = λ _.
    derived-unsealed (with_type (Cap r) unsealed_type) (Cap r) refl unsealed (IsWithin-with_type (Cap r) unsealed_type refl) refl
derived-opened (Data n) unsealed = λ tagged. cc

-- ---- other bounds

derived-bounded : (v : CapValue) (length : ℕ) → may_bound v length ≡ true → LiesWithin (Cap (bounded v length)) v
    → IsDerived (Cap (bounded v length)) v
unfolding bounded may_bound
derived-bounded (Cap r) length may lies =
    let unsealed : is_sealed (Cap r) ≡ false = not-true (is_sealed (Cap r)) (and_parts (not (is_sealed (Cap r))) _ may).0 in
    derived-unsealed (Cap (bounded (Cap r) length)) (Cap r) refl unsealed
    (record { base = lies.0; top = lies.1; perms = and_self r.perms }) unsealed
derived-bounded (Data n) length may lies = cc

pub derived-with_bounds : (v : CapValue) (length : ℕ) → IsSound v → IsDerivedIfTagged (with_bounds v length) v
derived-with_bounds v length sound = elim (cases_Bool (may_bound v length)) [
  | inl may ↦
      let set = with_bounds-set v length may in
      λ tagged. subst (λ x. IsDerived x v) (sym set)
      (derived-bounded v length may (subst (λ x. LiesWithin x v) set (within-with_bounds v length sound tagged)))
  | inr not_allowed ↦ rw (with_bounds-refused v length not_allowed) (λ tagged. cc)
]

-- ---- seals

-- what CSeal asks for
record MaySeal (v authority : CapValue) : Type 0 where
  tagged : is_tagged v ≡ true
  by : is_tagged authority ≡ true
  unsealed : is_sealed v ≡ false
  open_authority : is_sealed authority ≡ false
  seals : permits authority Seal ≡ true
  base : value_base authority ≤ value_address authority
  top : value_address authority < value_top authority
  small : value_address authority ≤ greatest_sealing_type

may_seal-parts : (v authority : CapValue) → may_seal v authority ≡ true → MaySeal v authority
unfolding may_seal
may_seal-parts v authority may =
    let a = and_parts _ _ may in
    let b = and_parts _ _ a.0 in
    let c = and_parts _ _ b.0 in
    let d = and_parts _ _ c.0 in
    let e = and_parts _ _ d.0 in
    let f = and_parts _ _ e.0 in
    let bounds = and_parts _ _ b.1 in
    record {
      tagged = f.0;
      by = f.1;
      unsealed = not-true _ e.1;
      open_authority = not-true _ d.1;
      seals = c.1;
      base = leb-true _ _ bounds.0;
      top = ltb-true _ _ bounds.1;
      small = leb-true _ _ a.1;
    }

seal-with : (v authority : CapValue) → MaySeal v authority
    → IsSealedWith (with_type v (value_address authority % 2 ^ 18)) v authority
seal-with (Cap r) authority may =
    let address : ℕ = value_address authority in
    let small : address ≤ greatest_sealing_type = may.small in
    let below : address < 2 ^ 18 = omega arith in
    let same : address % 2 ^ 18 ≡ address = mod-eq_of_lt below in
    record {
      tagged = refl;
      within = in_rights-unsealed (with_type (Cap r) (address % 2 ^ 18)) (Cap r) may.unsealed
          (IsWithin-with_type (Cap r) (address % 2 ^ 18) refl);
      by = may.by;
      opens = subst (OpensType authority) (sym same)
          (record { unsealed = may.open_authority; seals = may.seals; base = may.base; top = may.top });
    }
seal-with (Data n) authority may = let never : false ≡ true = may.tagged in cc

sealed-if : (may : Bool) (v c authority : CapValue) → (may ≡ true → IsSealedWith v c authority) → is_tagged (tagged_if may v) ≡ true
    → IsSealedWith (tagged_if may v) c authority
sealed-if true v c authority with tagged = with refl
sealed-if false v c authority with tagged = cc

-- what CSeal gives, if it is tagged: the value's rights, under a type that the authority may seal with
pub sealed-seal : (v authority : CapValue) → is_tagged (seal v authority) ≡ true → IsSealedWith (seal v authority) v authority
unfolding seal
sealed-seal v authority =
    sealed-if (may_seal v authority) (with_type v (value_address authority % 2 ^ 18)) v authority
    (λ may. seal-with v authority (may_seal-parts v authority may))

-- either way it is within that one's rights
pub in_rights-made : (v c authority : CapValue) → IsMadeOf v c authority → IsInRightsOf v c
in_rights-made v c authority (inl derived) = derived.within
in_rights-made v c authority (inr closed) = closed.within
