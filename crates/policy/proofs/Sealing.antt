-- What is sealed, and what nothing unseals, where a rule holds.
use Rattle.std.proofs.Common.{◌≡◌, ℕ, true, false, List, Option, None, Some, refl, sym, ◌∙◌, subst, inl, inr}
use Rattle.std.proofs.lemmas.Bool.{cases_Bool, true≢false}
use Rattle.std.specs.List.{list_any}
use Rattle.std.specs.Prelude.{◌==◌, Contains, MatchOption}
use Rattle.base.specs.ObjectType.{is_reserved}
use Rattle.cap_bounds.specs.CapValue.{CapValue, is_sealed, value_otype}
use Rattle.registers.specs.Registers.{register}
use Rattle.steps.specs.declared.event.Event.{Event}
use Rattle.steps.specs.IsState.{IsState}
use Rattle.steps.specs.State.{State}
use Rattle.authority.specs.Authority.{IsSealAllowed, held, sentry, sealed_by}
use Rattle.authority.specs.Reachable.{IsReachable, from_root, in_register}
use Rattle.authority.specs.StepLaws.{event-grows_not}
use Rattle.policy.specs.Terms.{Terms}
use Rattle.policy.specs.declared.rule.Ban.TheVariants as ban
use Rattle.policy.specs.Rule.{IsSealedBeyond}
use Rattle.policy.specs.Watch.{Holds, SealsBy}
use Rattle.policy.proofs.Rights.{seal-breaks}
use Rattle.policy.proofs.Tests.{any-there, there-any}
use Rattle.policy.proofs.Unsealing.{IsKey, never}

module _ (rule : Terms) (s : State) (holds : Holds rule s) where
  -- no register holds a key
  no-key : rule.seal ≡ false → (n otype : ℕ) → IsKey (register s.registers n) otype → ⊥
  no-key none n otype key = holds (register s.registers n) (from_root key.tagged (in_register n refl)) (record {
    ban = ban.Seal;
    breaks = (
      none,
      record {
        otype = otype;
        unreserved = key.unreserved;
        unsealed = key.opens.unsealed;
        permitted = inr key.opens.unseals;
        base = key.opens.base;
        top = key.opens.top;
      },
    );
  })

  allows : (o : Option (List ℕ)) → rule.types ≡ o → (v : CapValue) → IsReachable s v → is_sealed v ≡ true
      → is_reserved (value_otype v) ≡ false → MatchOption o (Unit {0}) (λ types. Contains types (value_otype v))
  allows None same v reachable sealed free = tt
  allows (Some types) same v reachable sealed free = elim (cases_Bool (list_any (λ t. t == value_otype v) types)) [
    | inl there ↦ any-there v types (value_otype v) there
    | inr out ↦ absurd (holds v reachable (record {
      ban = ban.Types;
      breaks = subst (λ o. MatchOption o ⊥ (λ types. IsSealedBeyond types v)) (sym same) (record {
        sealed = sealed;
        unreserved = free;
        beyond = λ there. true≢false (sym (there-any v types (value_otype v) there.0 there.1 there.2) ∙ out);
      });
    }))
  ]

  -- a seal that is allowed in code that may not seal was there
  was-held : (v : CapValue) → rule.seal ≡ false → is_reserved (value_otype v) ≡ false → IsSealAllowed s v → IsReachable s v
  was-held v none free (held reachable) = reachable
  was-held v none free (sentry same) = absurd (true≢false (subst (λ o. is_reserved o ≡ false) same free))
  was-held v none free (sealed_by c reachable opens) = absurd (seal-breaks rule s holds v c none free reachable opens)

  pub seals-by : (e : Event) → IsState s → SealsBy rule e s
  seals-by e is = record {
    types = allows rule.types refl;
    unseals = λ none. never s (no-key none) e;
    seals = λ none plain v reachable sealed free.
        was-held v none free (((event-grows_not s is e plain).grounded v reachable).seal sealed);
  }
