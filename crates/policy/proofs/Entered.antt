-- Where an event leads by a rule that holds: what can be fetched after it lies in the ranges for fetches, or in those that may be entered
-- through a seal; and a trap leads to its entry.
use Rattle.std.proofs.Common.{◌≡◌, ℕ, ◌+◌, ◌*◌, ◌/◌, ◌%◌, ◌^◌, ◌<◌, ◌≤◌, Bool, true, false, eqb, not, ◌&&◌, cond, Option, None, Some}
use Rattle.std.proofs.Common.{refl, sym, ap, ◌∙◌, subst, inl, inr, ◌⊎◌, arith}
use Rattle.std.specs.Prelude.{◌≢◌}
use Rattle.std.proofs.lemmas.Bool.{and_parts, cond_both, eqb-true}
use Rattle.std.proofs.Math.Nat.{mod-eq_of_lt}
use Rattle.base.specs.ObjectType.{sentry_type, unsealed_type}
use Rattle.cap_bounds.specs.CapValue.{CapValue, Cap, Data, is_tagged, is_sealed, value_address, value_otype}
use Rattle.cap_bounds.specs.Record.{window_holds}
use Rattle.cap_bounds.specs.SetAddress.{at_address, data_at}
use Rattle.cap_bounds.specs.SoundLaws.{value_address-below}
use Rattle.cap_checks.specs.FirstFault.{jump_target}
use Rattle.cap_rights.specs.declared.permission.Permission.TheVariants as permission
use Rattle.cap_rights.specs.Derived.{IsDerivedIfTagged}
use Rattle.cap_rights.specs.DerivationLaws.{IsWithin-with_type}
use Rattle.cap_rights.specs.DerivedLaws.{derived-self, derived-at_address}
use Rattle.cap_rights.specs.Opened.{opened}
use Rattle.cap_rights.specs.RightsLaws.{permits-outer, unsealed-outer}
use Rattle.cap_rights.specs.Within.{IsWithinIfTagged}
use Rattle.registers.specs.Registers.{register}
use Rattle.special_regs.specs.Traps.{aligned, is_sentry, sentry_opened, target}
use Rattle.steps.specs.declared.effect.Effect.{Effect}
use Rattle.steps.specs.declared.effect.Effect.TheVariants as effect
use Rattle.steps.specs.declared.event.Event.{Event}
use Rattle.steps.specs.declared.event.Event.TheVariants.{Step, Tick, Byte}
use Rattle.steps.specs.Effect.{applied}
use Rattle.steps.specs.Event.{after, outcome}
use Rattle.steps.specs.EventLaws.{IsState-after}
use Rattle.steps.specs.IsState.{IsState}
use Rattle.steps.specs.Outcome.{Outcome, Plain, Trap, Unseal, SealedJump, sealed_jump_if, outcome_of, step_outcome_unless, step_outcome}
use Rattle.steps.specs.State.{State, pc_of}
use Rattle.steps.specs.Step.{step_effect, stepped_unless, stepped}
use Rattle.authority.specs.Authority.{HasSystem}
use Rattle.authority.specs.Derives.{Derives}
use Rattle.authority.specs.Reachable.{IsReachable, from_root, from_special, in_register, in_pcc, in_mepcc}
use Rattle.authority.specs.RowLaws.{system-used}
use Rattle.authority.specs.StepLaws.{step_effect-derives, event-grows_not}
use Rattle.reach.specs.Ranges.{IsInOne}
use Rattle.policy.specs.Terms.{Terms}
use Rattle.policy.specs.declared.rule.Ban.TheVariants as ban
use Rattle.policy.specs.Rule.{entry}
use Rattle.policy.specs.Watch.{Holds, IsTrapEntry, RunsBy, fetched_at}
use Rattle.policy.proofs.Covers.{in_or_out}
use Rattle.policy.proofs.Fetching.{IsFetchedInRam, executes, fetched-is, fetched-within}
use Rattle.policy.proofs.Leads.{LeadsOn, step_effect-leads}
use Rattle.policy.proofs.Rights.{keeps-execute}

-- ---- values

-- a value that is tagged at an address stands there
at-tagged : (v : CapValue) (a : ℕ) → is_tagged (at_address v a) ≡ true → value_address (at_address v a) ≡ a
unfolding at_address
at-tagged (Cap r) a =
    cond_both (not (is_sealed (Cap r)) && window_holds r a) (Cap (record r { address = a })) (data_at (Cap r) a)
    (λ x. is_tagged x ≡ true → value_address x ≡ a) (λ _. λ tagged. refl) (λ _. λ tagged. cc)
at-tagged (Data n) a = λ tagged. cc

opened-within : (v : CapValue) → IsWithinIfTagged (opened v) v
unfolding opened
opened-within v = IsWithin-with_type v unsealed_type

opened-tagged : (v : CapValue) → is_tagged (opened v) ≡ true → is_tagged v ≡ true
unfolding opened
opened-tagged (Cap r) tagged = refl
opened-tagged (Data n) tagged = tagged

opened-address : (v : CapValue) → is_tagged v ≡ true → value_address (opened v) ≡ value_address v
unfolding opened
opened-address (Cap r) tagged = refl
opened-address (Data n) tagged = cc

-- where a jump to an address leads, if that is a multiple of 4
jumped-entry : (a pc : ℕ) → a < 2 ^ 64 → pc ≡ jump_target a 0 → pc % 4 ≡ 0 → pc ≡ a / 4 * 4
unfolding jump_target
jumped-entry a pc fits is multiple =
    let small : a + 0 < 2 ^ 64 = omega (arith, fits) in
    let whole : (a + 0) % 2 ^ 64 ≡ a + 0 = mod-eq_of_lt small in
    let even : pc ≡ (a + 0) / 2 * 2 = is ∙ ap (λ n. n / 2 * 2) whole in
    grind arith

aligned-derived : (v : CapValue) → IsDerivedIfTagged (aligned v) v
unfolding aligned
aligned-derived v =
    cond_both (eqb (value_address v % 4) 0) v (at_address v (value_address v / 4 * 4)) (λ x. IsDerivedIfTagged x v)
    (λ _. derived-self v) (λ _. derived-at_address v (value_address v / 4 * 4))

aligned-address : (v : CapValue) → is_tagged (aligned v) ≡ true → value_address (aligned v) ≡ value_address v / 4 * 4
unfolding aligned
aligned-address v =
    cond_both (eqb (value_address v % 4) 0) v (at_address v (value_address v / 4 * 4))
    (λ x. is_tagged x ≡ true → value_address x ≡ value_address v / 4 * 4)
    (λ multiple. λ _.
    let zero : value_address v % 4 ≡ 0 = eqb-true (value_address v % 4) 0 multiple in
    grind arith)
    (λ _. at-tagged v (value_address v / 4 * 4))

opened-sentry : (v : CapValue) → is_sentry v ≡ true → sentry_opened v ≡ opened v
unfolding sentry_opened
opened-sentry v is = ap (λ b. cond b (opened v) v) is

sentry-sealed : (v : CapValue) → is_sentry v ≡ true → is_sealed v ≡ true
unfolding is_sentry
sentry-sealed v is = rw (eqb-true (value_otype v) sentry_type (and_parts (is_tagged v) (eqb (value_otype v) sentry_type) is).1) refl

-- ---- where PCC is fetched from

module _ (rule : Terms) (s : State) (holds : Holds rule s) (later : State) where
  abbrev IsLed : Type 0
  IsLed = IsInOne rule.execute (pc_of later) ⊎ IsInOne rule.enter (pc_of later)

  -- PCC is derived from what was reachable
  derived-led : (v : CapValue) → IsReachable s v → IsDerivedIfTagged later.scrs.pcc v → IsFetchedInRam later → IsLed
  derived-led v reachable derived both = elim (in_or_out rule.execute (pc_of later)) [
    | inl one ↦ inl one
    | inr outside ↦
        let fetch = both.0 in
        let d = derived fetch.tagged in
        let outer = unsealed-outer later.scrs.pcc v fetch.unsealed d.within in
        let base = fetch.base in
        let top = fetch.top in
        let low = outer.1.base in
        let high = outer.1.top in
        absurd (executes rule s holds v reachable (record {
          byte = pc_of later;
          in_ram = both.1;
          outside = outside;
          lets = record { unsealed = outer.0; permitted = permits-outer later.scrs.pcc v permission.Execute outer.1 fetch.executes };
          base = omega arith;
          top = omega arith;
        }))
  ]

  -- PCC is derived from what was reachable, without its seal, and stands where that leads
  sealed-led : (c : CapValue) → IsReachable s c → is_sealed c ≡ true → IsDerivedIfTagged later.scrs.pcc (opened c)
      → pc_of later ≡ entry c → IsFetchedInRam later → IsLed
  sealed-led c reachable sealed derived is both = elim (in_or_out rule.execute (pc_of later)) [
    | inl one ↦ inl one
    | inr unfetched ↦ elim (in_or_out rule.enter (pc_of later)) [
      | inl one ↦ inr one
      | inr unentered ↦
          let fetch = both.0 in
          let d = derived fetch.tagged in
          let outer = unsealed-outer later.scrs.pcc (opened c) fetch.unsealed d.within in
          let inner = opened-within c d.tagged in
          let base = fetch.base in
          let top = fetch.top in
          let low = outer.1.base in
          let high = outer.1.top in
          let lower = inner.base in
          let higher = inner.top in
          let ram = both.1 in
          absurd (holds c reachable (record {
            ban = ban.Enter;
            breaks = record {
              sealed = sealed;
              executes = permits-outer (opened c) c permission.Execute inner
                  (permits-outer later.scrs.pcc (opened c) permission.Execute outer.1 fetch.executes);
              in_ram = omega (arith, is);
              base = omega (arith, is);
              top = omega (arith, is);
              not_entered = λ one. unentered (subst (IsInOne rule.enter) (sym is) one);
              not_fetched = λ one. unfetched (subst (IsInOne rule.execute) (sym is) one);
            };
          }))
    ]
  ]

-- ---- effects

plain-unless : (sealed : Bool) → (sealed_jump_if sealed ≡ Plain → ⊥) → sealed ≡ true
plain-unless true other = refl
plain-unless false other = absurd (other refl)

module _ (rule : Terms) (s : State) (holds : Holds rule s) (is : IsState s) where
  led-applied : (e : Effect CapValue) → LeadsOn e s → Derives e s → IsState (applied e s) → outcome_of e ≢ Trap → outcome_of e ≢ Plain
      → IsFetchedInRam (applied e s) → IsLed rule s holds (applied e s)
  unfolding applied outcome_of LeadsOn
  led-applied (effect.Trap fault) leads derives after trap plain both = absurd (trap refl)
  led-applied (effect.Unseal w) leads derives after trap plain both =
      let derived = derived-at_address s.scrs.pcc ((pc_of s + 4) % 2 ^ 64) in
      derived-led rule s holds (applied (effect.Unseal w) s) s.scrs.pcc
      (from_root (derived both.0.tagged).tagged (in_pcc refl)) derived both
  led-applied (effect.Enter e) leads derives after trap plain both =
      let way = leads (plain-unless e.sealed plain) in
      let c : CapValue = register s.registers way.number in
      let derived = derived-at_address e.code e.target in
      let from : IsDerivedIfTagged (at_address e.code e.target) (opened c) =
      subst (IsDerivedIfTagged (at_address e.code e.target)) way.code derived in
      sealed-led rule s holds (applied (effect.Enter e) s) c
      (from_root (opened-tagged c (from both.0.tagged).tagged) (in_register way.number refl)) way.sealed from
      (jumped-entry (value_address c) (pc_of (applied (effect.Enter e) s)) (value_address-below c (is.values way.number))
      (at-tagged e.code e.target both.0.tagged ∙ way.target) after.scrs.aligned)
      both
  led-applied (effect.Return sealed) leads derives after trap plain both =
      let v : CapValue = s.scrs.mepcc in
      let closed : is_sentry v ≡ true = sym derives.1 ∙ plain-unless sealed plain in
      let same = opened-sentry v closed in
      let derived : IsDerivedIfTagged (target v) (opened v) =
      subst (IsDerivedIfTagged (target v)) same (aligned-derived (sentry_opened v)) in
      let tagged = opened-tagged v (derived both.0.tagged).tagged in
      let has : HasSystem s = system-used s derives.0 in
      sealed-led rule s holds (applied (effect.Return sealed) s) v
      (from_special has.reachable has.opens tagged (in_mepcc refl)) (sentry-sealed v closed) derived
      (aligned-address (sentry_opened v) both.0.tagged
      ∙ ap (λ x. value_address x / 4 * 4) same ∙ ap (λ a. a / 4 * 4) (opened-address v tagged))
      both
  led-applied e leads derives after trap plain both = absurd (plain refl)

-- ---- events

trap-unless : (sealed : Bool) → sealed_jump_if sealed ≡ Trap → ⊥
trap-unless true trap = cc
trap-unless false trap = cc

unseal-unless : (tagged : Bool) → cond tagged Unseal Plain ≡ Trap → ⊥
unseal-unless true trap = cc
unseal-unless false trap = cc

trap-entry : (e : Effect CapValue) (s : State) → outcome_of e ≡ Trap → IsTrapEntry s (applied e s)
unfolding applied outcome_of
trap-entry (effect.Trap fault) s trap = record { fault = fault; pcc = refl }
trap-entry (effect.Unseal w) s trap = absurd (unseal-unless (is_tagged w.value) trap)
trap-entry (effect.Enter e) s trap = absurd (trap-unless e.sealed trap)
trap-entry (effect.Return sealed) s trap = absurd (trap-unless sealed trap)
trap-entry e s trap = cc

stepped-entry : (halted : Option ℕ) (s : State) → step_outcome_unless halted s ≡ Trap → IsTrapEntry s (stepped_unless halted s)
stepped-entry None s trap = trap-entry (step_effect s) s trap
stepped-entry (Some number) s trap = cc

traps-after : (e : Event) (s : State) → outcome e s ≡ Trap → IsTrapEntry s (after e s)
unfolding stepped step_outcome
traps-after Step s trap = stepped-entry s.devices.halted s trap
traps-after Tick s trap = cc
traps-after (Byte b) s trap = cc

unseal-plain : Unseal ≡ Plain → ⊥
unseal-plain same = cc

jump-plain : SealedJump ≡ Plain → ⊥
jump-plain same = cc

module _ (rule : Terms) (s : State) (holds : Holds rule s) (is : IsState s) where
  led-stepped : (halted : Option ℕ) → IsState (stepped_unless halted s) → step_outcome_unless halted s ≢ Trap
      → step_outcome_unless halted s ≢ Plain → IsFetchedInRam (stepped_unless halted s) → IsLed rule s holds (stepped_unless halted s)
  led-stepped None after trap plain both =
      led-applied rule s holds is (step_effect s) (step_effect-leads s) (step_effect-derives s is) after trap plain both
  led-stepped (Some number) after trap plain both = absurd (plain refl)

  led-after : (e : Event) → outcome e s ≢ Trap → outcome e s ≢ Plain → IsFetchedInRam (after e s) → IsLed rule s holds (after e s)
  unfolding stepped step_outcome
  led-after Step trap plain both = led-stepped s.devices.halted (IsState-after s is Step tt) trap plain both
  led-after Tick trap plain both = absurd (plain refl)
  led-after (Byte b) trap plain both = absurd (plain refl)

  next-within : (e : Event) → outcome e s ≡ Plain → (pc a : ℕ) → fetched_at (after e s) ≡ Some pc → pc ≤ a → a < pc + 4
      → IsInOne rule.execute a
  next-within e plain = fetched-within rule (after e s) (λ v reachable.
      keeps-execute rule s holds v ((event-grows_not s is e plain).grounded v reachable))

  sealed-within : (e : Event) → outcome e s ≢ Trap → outcome e s ≢ Plain → (pc : ℕ) → fetched_at (after e s) ≡ Some pc
      → IsInOne rule.execute pc ⊎ IsInOne rule.enter pc
  sealed-within e trap plain pc is_fetched =
      let both = fetched-is (after e s) pc is_fetched in
      subst (λ a. IsInOne rule.execute a ⊎ IsInOne rule.enter a) both.1 (led-after e trap plain both.0)

  leads-by : (e : Event) (o : Outcome) → outcome e s ≡ o → outcome e s ≢ Trap → (pc : ℕ) → fetched_at (after e s) ≡ Some pc
      → IsInOne rule.execute pc ⊎ IsInOne rule.enter pc
  leads-by e Plain same trap pc is_fetched = inl (next-within e same pc pc is_fetched (omega arith) (omega arith))
  leads-by e Trap same trap pc is_fetched = absurd (trap same)
  leads-by e Unseal same trap pc is_fetched = sealed-within e trap (λ plain. unseal-plain (sym same ∙ plain)) pc is_fetched
  leads-by e SealedJump same trap pc is_fetched = sealed-within e trap (λ plain. jump-plain (sym same ∙ plain)) pc is_fetched

pub runs-by : (rule : Terms) (s : State) → Holds rule s → (e : Event) → IsState s → RunsBy rule e s
runs-by rule s holds e is = record {
  fetched = fetched-within rule s (executes rule s holds);
  next = next-within rule s holds is e;
  leads = leads-by rule s holds is e (outcome e s) refl;
  traps = traps-after e s;
}
