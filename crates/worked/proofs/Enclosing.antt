-- The counter with its trap entry in its own code is enclosed in its two capabilities, which keep its rule.
use Rattle.std.proofs.Common.{◌≡◌, ℕ, ◌<◌, ◌≤◌, true, false, inl, inr, [], ◌∷◌, sym, ap, ◌∙◌, subst, arith}
use Rattle.std.proofs.lemmas.Bool.{true≢false}
use Rattle.std.specs.Prelude.{Contains}
use Rattle.base.specs.ObjectType.{is_reserved, sentry_type}
use Rattle.cap_bounds.specs.CapValue.{CapValue, is_sealed, is_tagged, value_otype, value_top}
use Rattle.cap_rights.specs.Rights.{OpensGranule}
use Rattle.steps.specs.IsState.{IsState}
use Rattle.steps.specs.State.{State}
use Rattle.authority.specs.Reachable.{IsRoot, IsSpecial, in_register, in_pcc, in_ddc, in_mtcc, in_mtdc, in_mscratchc, in_mepcc}
use Rattle.doors.specs.Closed.{IsGroundedBy, IsOpenedBy, entry, as_code, as_data, own_seal}
use Rattle.doors.specs.PairLaws.{pair-invocable}
use Rattle.doors.specs.SetLaws.{grounded-member}
use Rattle.doors.specs.Sets.{IsSealAllowedBy, as_member, as_sentry, by_member, IsWritableBy}
use Rattle.reach.specs.Differs.{KeepsBytes}
use Rattle.policy.specs.Rule.{Breaks, BreaksRule}
use Rattle.policy.proofs.Rights.{breaks-outer, beyond-sealed}
use Rattle.always.specs.Enclosed.{Encloses, IsEnclosedBy, KeepsRules, LeavesPlacesBeyond}
use Rattle.worked.specs.Counter.{counter, counter_rule, two_capabilities}
use Rattle.worked.specs.Enclosure.{enclosed_counter, IsOneOfTheTwo}
use Rattle.worked.proofs.Confining.{confined, nulls, no-seal, no-system, no-unsealing}
use Rattle.worked.proofs.Counting.{is-state}
use Rattle.worked.proofs.Ruled.{alone, none-breaks}

there : (v : CapValue) → IsOneOfTheTwo v → Contains two_capabilities v
there v (inl same) = (0, omega arith, sym same)
there v (inr same) = (1, omega arith, sym same)

-- ---- neither is sealed

unsealed : (v : CapValue) → IsOneOfTheTwo v → is_sealed v ≡ false
unsealed v (inl same) = ap is_sealed same
unsealed v (inr same) = ap is_sealed same

no-sentry : (v : CapValue) → IsOneOfTheTwo v → value_otype v ≡ sentry_type → ⊥
no-sentry v (inl same) is = let never : 0x3FFFF ≡ 0x3FFFE = sym (ap value_otype same) ∙ is in omega (arith, never)
no-sentry v (inr same) is = let never : 0x3FFFF ≡ 0x3FFFE = sym (ap value_otype same) ∙ is in omega (arith, never)

no-door : (c key : CapValue) → IsOneOfTheTwo c → IsOpenedBy c key → ⊥
no-door c key one (entry sentry) = no-sentry c one sentry
no-door c key one (as_code pair) = true≢false (sym (pair-invocable c key pair).first.sealed ∙ unsealed c one)
no-door c key one (as_data pair) = true≢false (sym (pair-invocable key c pair).second.sealed ∙ unsealed c one)
no-door c key one (own_seal sealed invokes opens) = true≢false (sym sealed ∙ unsealed c one)

pub encloses : Encloses IsOneOfTheTwo
encloses = record {
  doors = λ c key one other opens. absurd (no-door c key one opens);
  unseals = λ c otype one opens. no-unsealing otype c (there c one) opens;
  system = λ has. no-system has.source (there has.source has.member) has.opens;
}

-- ---- it is enclosed

module _ (secret : ℕ) where
  root-in : (v : CapValue) → is_tagged v ≡ true → IsRoot (enclosed_counter secret) v → IsOneOfTheTwo v
  unfolding enclosed_counter counter
  root-in v tagged (in_register n at) = absurd (true≢false (sym tagged ∙ ap is_tagged at ∙ nulls 32 n))
  root-in v tagged (in_pcc at) = inl at
  root-in v tagged (in_ddc at) = inr at

  special-in : (v : CapValue) → IsSpecial (enclosed_counter secret) v → IsOneOfTheTwo v
  unfolding enclosed_counter
  special-in v (in_mtcc at) = inl at
  special-in v (in_mtdc at) = inr at
  special-in v (in_mscratchc at) = inr at
  special-in v (in_mepcc at) = inl at

  pub enclosed : IsEnclosedBy IsOneOfTheTwo (enclosed_counter secret)
  unfolding enclosed_counter counter
  enclosed = record {
    bounds = record {
      roots = λ v tagged root. grounded-member IsOneOfTheTwo v (root-in v tagged root);
      specials = λ c v one opens tagged special. absurd (no-system c (there c one) opens);
      granules = λ c v granule one opens here. elim one [
        | inl same ↦
            absurd (true≢false (sym here.tagged ∙ (confined secret).code_granules granule
            (subst (λ x. OpensGranule x granule) same opens)))
        | inr same ↦
            absurd (true≢false (sym here.tagged ∙ (confined secret).data_granules granule
            (subst (λ x. OpensGranule x granule) same opens)))
      ];
    };
    specials = λ v tagged special. grounded-member IsOneOfTheTwo v (special-in v special);
  }

  pub enclosed-state : secret < 256 → IsState (enclosed_counter secret)
  unfolding enclosed_counter counter
  enclosed-state fits =
      let before = is-state secret fits in
      record {
        registers = before.registers;
        values = before.values;
        scrs = record {
          pcc = before.scrs.pcc;
          ddc = before.scrs.ddc;
          mtcc = before.scrs.pcc;
          mtdc = before.scrs.ddc;
          mscratchc = before.scrs.ddc;
          mepcc = before.scrs.pcc;
          aligned = before.scrs.aligned;
        };
        csrs = before.csrs;
        memory = before.memory;
        capabilities = before.capabilities;
        devices = before.devices;
      }

-- ---- the rule

member-keeps : (v : CapValue) → IsOneOfTheTwo v → BreaksRule counter_rule v → ⊥
member-keeps v one broken = none-breaks v one broken

no-type : (v : CapValue) → is_sealed v ≡ true → is_reserved (value_otype v) ≡ false → IsSealAllowedBy IsOneOfTheTwo v → ⊥
no-type v sealed free (as_member one) = true≢false (sym sealed ∙ unsealed v one)
no-type v sealed free (as_sentry sentry) = true≢false (subst (λ o. is_reserved o ≡ false) sentry free)
no-type v sealed free (by_member c one opens) = no-seal (value_otype v) c (there c one) opens

grounded-keeps : (v : CapValue) → IsGroundedBy IsOneOfTheTwo v → BreaksRule counter_rule v → ⊥
grounded-keeps v earned broken =
    elim (breaks-outer v earned.covered.source earned.covered.within counter_rule broken.ban broken.breaks) [
      | inl outer ↦ member-keeps earned.covered.source earned.covered.member outer
      | inr is ↦
          let both = beyond-sealed v counter_rule.types (subst (λ part. Breaks counter_rule part v) is broken.breaks) in
          no-type v both.0 both.1 (earned.seal both.0)
    ]

pub keeps-rules : KeepsRules IsOneOfTheTwo (counter_rule ∷ [])
keeps-rules rule is v earned broken =
    grounded-keeps v earned (subst (λ r. BreaksRule r v) (sym (alone rule is.0 is.1 is.2)) broken)

-- ---- the secret

not-written : (a : ℕ) → 0x8000_0400 ≤ a → IsWritableBy IsOneOfTheTwo a → ⊥
not-written a low writable = elim writable.member [
  | inl same ↦ let top : a < 0x8000_0100 = subst (λ c. a < value_top c) same writable.opens.top in omega arith
  | inr same ↦ let top : a < 0x8000_0200 = subst (λ c. a < value_top c) same writable.opens.top in omega arith
]

pub secret-stays : (s later : State) → LeavesPlacesBeyond IsOneOfTheTwo s later → KeepsBytes s.memory later.memory 0x8000_0400 1
secret-stays s later left = λ a ram low high. left.memory.bytes a ram (not-written a low)
