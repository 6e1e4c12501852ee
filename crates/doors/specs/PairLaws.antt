-- What CInvoke accepts: two values that are sealed with one type, which is not reserved, and both have CInvoke.
use Rattle.std.proofs.Common.{◌≡◌, true, false, eqb, refl, subst, sym}
use Rattle.std.specs.Prelude.{not}
use Rattle.std.proofs.lemmas.Bool.{cond_both, eqb-true, true≢false}
use Rattle.base.specs.FirstFaultLaws.{EachHolds, first_fault-none}
use Rattle.base.specs.ObjectType.{sentry_type, unsealed_type, is_reserved}
use Rattle.cap_bounds.specs.CapValue.{CapValue, is_tagged, is_sealed, value_otype}
use Rattle.cap_rights.specs.Permission.{permits}
use Rattle.cap_rights.specs.declared.permission.Permission.TheVariants.{CInvoke}
use Rattle.cap_checks.specs.FirstFault.{invoke_checks, invoke_fault}
use Rattle.cap_checks.specs.Question.{judged}
use Rattle.doors.specs.Closed.{IsPair}

-- a tagged value, sealed but not as a sentry, with CInvoke
pub record IsInvocable (v : CapValue) : Type 0 where
  pub tagged : is_tagged v ≡ true
  pub sealed : is_sealed v ≡ true
  pub no_sentry : value_otype v ≡ sentry_type → ⊥
  pub invokes : permits v CInvoke ≡ true

is-sealed : (v : CapValue) → (value_otype v ≡ unsealed_type → ⊥) → is_sealed v ≡ true
is-sealed v none =
    cond_both (eqb (value_otype v) unsealed_type) false true (λ b. b ≡ true)
    (λ same. absurd (none (eqb-true (value_otype v) unsealed_type same))) (λ _. refl)

not-unsealed : not (is_reserved unsealed_type) ≡ true → ⊥
not-unsealed free = true≢false (sym free)

not-sentry : not (is_reserved sentry_type) ≡ true → ⊥
not-sentry free = true≢false (sym free)

invocable : (v : CapValue) → is_tagged v ≡ true → not (is_reserved (value_otype v)) ≡ true → permits v CInvoke ≡ true → IsInvocable v
invocable v tagged free invokes = record {
  tagged = tagged;
  sealed = is-sealed v (λ same. not-unsealed (subst (λ o. not (is_reserved o) ≡ true) same free));
  no_sentry = λ same. not-sentry (subst (λ o. not (is_reserved o) ≡ true) same free);
  invokes = invokes;
}

-- both are, and they have one type
pub record AreInvocable (code datum : CapValue) : Type 0 where
  pub first : IsInvocable code
  pub second : IsInvocable datum
  pub types : value_otype code ≡ value_otype datum

pub pair-invocable : (code datum : CapValue) → IsPair code datum → AreInvocable code datum
unfolding invoke_fault
pair-invocable code datum pair =
    let all : EachHolds (judged (invoke_checks code pair.code_register datum pair.data_register)) =
    first_fault-none (judged (invoke_checks code pair.code_register datum pair.data_register)) pair.accepted in
    record {
      first = invocable code all.0 all.1.1.0 all.1.1.1.1.1.0;
      second = invocable datum all.1.0 all.1.1.1.0 all.1.1.1.1.1.1.0;
      types = eqb-true (value_otype code) (value_otype datum) all.1.1.1.1.0;
    }
