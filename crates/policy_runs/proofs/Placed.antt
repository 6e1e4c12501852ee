-- A walk that ended before a step.
use Rattle.std.proofs.Common.{◌≡◌, ℕ, ◌+◌, ◌-◌, List, ◌++◌, map, sym, ap, ◌∙◌, subst, arith}
use Rattle.std.specs.Prelude.{Some, option_to_list}
use Rattle.steps.specs.declared.event.Event.{Event}
use Rattle.steps.specs.declared.event.Event.TheVariants.{Byte}
use Rattle.steps.specs.State.{State}
use Rattle.machine.specs.Run.{run_after}
use Rattle.schedules.specs.declared.schedule.Schedule.{Schedule}
use Rattle.schedules.specs.Schedule.{IsPlaceOf, byte_before, events_before, first_steps, up_to_halt}
use Rattle.schedules.specs.Whole.{MetBeforeStep}
use Rattle.schedules.proofs.Events.{first_are_met}

module _ {W : Type 0} {Saw : List Event → State → W → W → Type 0} {schedule : Schedule} {input : List ℕ} {n : ℕ} {s t : State} {v w : W}
    (ended : MetBeforeStep Saw schedule input n s t v w) where
  -- none of its events comes after the halt
  are-before : ended.events ≡ events_before (Some (n + 1)) schedule input s
  are-before =
      let byte = map Byte (option_to_list (byte_before schedule input (n + 1))) in
      let here : n ≡ n + 1 - 1 = omega arith in
      ended.place
      ∙ ap (λ es. es ++ byte) (sym (first_are_met (first_steps schedule input n) byte s (rw ended.place at ended.met.all)))
      ∙ ap (λ k. up_to_halt (first_steps schedule input k) s ++ byte) here

  pub place-next : IsPlaceOf schedule (n + 1)
  place-next = (omega arith, omega (arith, ended.few))

  pub state-next : t ≡ run_after (events_before (Some (n + 1)) schedule input s) s
  state-next = ended.met.state ∙ ap (λ es. run_after es s) are-before

  pub told-next : Saw (events_before (Some (n + 1)) schedule input s) s v w
  told-next = subst (λ es. Saw es s v w) are-before ended.met.told
