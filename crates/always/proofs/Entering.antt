-- What any code does at an event, over a set with doors that bounds the state.
use Rattle.std.proofs.Common.{◌≡◌, ℕ, Bool, true, false, cond, Option, None, Some, List, [], ◌∷◌, refl, inl, inr, ◌⊎◌}
use Rattle.std.specs.Prelude.{◌≢◌}
use Rattle.cap_bounds.specs.CapValue.{CapValue, is_tagged}
use Rattle.steps.specs.declared.effect.Effect.{Effect}
use Rattle.steps.specs.declared.effect.Effect.TheVariants as effect
use Rattle.steps.specs.declared.event.Event.{Event}
use Rattle.steps.specs.declared.event.Event.TheVariants.{Step, Tick, Byte}
use Rattle.steps.specs.Effect.{applied}
use Rattle.steps.specs.Event.{after, outcome}
use Rattle.steps.specs.IsEvent.{IsEvent}
use Rattle.steps.specs.IsState.{IsState}
use Rattle.steps.specs.Outcome.{Outcome, Plain, Trap, Unseal, SealedJump, outcome_of, step_outcome, step_outcome_unless}
use Rattle.steps.specs.State.{State}
use Rattle.steps.specs.Step.{step_effect, stepped, stepped_unless}
use Rattle.doors.specs.Closed.{Bounds}
use Rattle.doors.specs.Sets.{LeavesAloneBeyond}
use Rattle.machine.specs.Run.{run_after}
use Rattle.doors.specs.Turn.{IsPlainOrJump}
use Rattle.doors.specs.Turn.{IsTurn}
use Rattle.always.specs.Enclosed.{GoesOn, IsEntered}

unseals-no-trap : (tagged : Bool) → cond tagged Unseal Plain ≡ Trap → ⊥
unseals-no-trap true is = cc
unseals-no-trap false is = cc

jumps-no-trap : (closed : Bool) → cond closed SealedJump Plain ≡ Trap → ⊥
jumps-no-trap true is = cc
jumps-no-trap false is = cc

entered-by : (x : Effect CapValue) (s : State) → outcome_of x ≡ Trap → IsEntered s (applied x s)
unfolding applied outcome_of
entered-by (effect.Trap f) s is = record { fault = f; scrs = refl; csrs = refl; registers = refl; memory = refl; devices = refl }
entered-by effect.Nothing s is = cc
entered-by (effect.Write w) s is = cc
entered-by (effect.Unseal w) s is = absurd (unseals-no-trap (is_tagged w.value) is)
entered-by (effect.Store w) s is = cc
entered-by (effect.StoreCapability w) s is = cc
entered-by (effect.DeviceLoad l) s is = cc
entered-by (effect.DeviceStore w) s is = cc
entered-by (effect.Jump target) s is = cc
entered-by (effect.Link l) s is = cc
entered-by (effect.Enter e) s is = absurd (jumps-no-trap e.sealed is)
entered-by (effect.Special w) s is = cc
entered-by (effect.Csr w) s is = cc
entered-by (effect.Return closed) s is = absurd (jumps-no-trap closed is)

entered-unless : (halted : Option ℕ) (s : State) → step_outcome_unless halted s ≡ Trap → IsEntered s (stepped_unless halted s)
entered-unless None s is = entered-by (step_effect s) s is
entered-unless (Some number) s is = cc

pub entered : (e : Event) (s : State) → outcome e s ≡ Trap → IsEntered s (after e s)
unfolding stepped step_outcome
entered Step s is = entered-unless s.devices.halted s is
entered Tick s is = cc
entered (Byte b) s is = cc

module _ (P : CapValue → Type 0)
    (bound : (events : List Event) (s : State) → Bounds P s → IsTurn events s → Bounds P (run_after events s))
    (leave : (events : List Event) (s : State) → Bounds P s → IsTurn events s → LeavesAloneBeyond P s (run_after events s))
    (s : State) (bounds : Bounds P s) (is : IsState s) (e : Event) (event : IsEvent e) where
  goes-on : IsPlainOrJump e s → GoesOn P s (after e s)
  goes-on on =
      let turn : IsTurn (e ∷ []) s = record { state = is; are_events = (event, tt); are_plain_or_jumps = (on, tt) } in
      record { bounds = bound (e ∷ []) s bounds turn; left = leave (e ∷ []) s bounds turn }

  by-outcome : (o : Outcome) → outcome e s ≡ o → o ≢ Unseal → GoesOn P s (after e s) ⊎ IsEntered s (after e s)
  by-outcome Plain comes not = inl (goes-on (inl comes))
  by-outcome SealedJump comes not = inl (goes-on (inr comes))
  by-outcome Trap comes not = inr (entered e s comes)
  by-outcome Unseal comes not = absurd (not refl)

  pub any-code : outcome e s ≢ Unseal → GoesOn P s (after e s) ⊎ IsEntered s (after e s)
  any-code not = by-outcome (outcome e s) refl not
