-- Steps one by one: a step with what comes around it is a block of one, and each is met where those before it are.
use Rattle.std.proofs.Common.{◌≡◌, ℕ, ◌+◌, ◌-◌, ◌<◌, ◌≤◌, Bool, false, List, [], ◌∷◌, ◌++◌, replicate, refl, sym, ap, ◌∙◌}
use Rattle.std.proofs.Common.{append_assoc, arith}
use Rattle.std.specs.Prelude.{Option}
use Rattle.steps.specs.declared.event.Event.{Event}
use Rattle.steps.specs.declared.event.Event.TheVariants.{Step}
use Rattle.steps.specs.Event.{after}
use Rattle.steps.specs.State.{State}
use Rattle.machine.specs.Run.{run_after}
use Rattle.schedules.specs.declared.schedule.Schedule.{Schedule}
use Rattle.schedules.specs.Schedule.{block, byte_before, is_tick_after, first_steps, is_halted, scheduled, steps_in, up_to_halt, AreAlone}
use Rattle.schedules.proofs.Events.{brought, ticked_after, goes_on, no_more, count_in_block, steps_in-append, then_up_to_halt}
use Rattle.schedules.proofs.Events.{up_to_halt-append, up_to_halt-block}
use Rattle.schedules.proofs.Scheduled.{nth_block, block_follows, more_follow, steps_from}

pub one_met : (t : State) → up_to_halt (replicate 1 Step) t ≡ Step ∷ []
one_met t = ap (λ es. Step ∷ es) (no_more (is_halted (after Step t)))

pub at_step : (t u : State) → u ≡ after Step t → u ≡ run_after (up_to_halt (replicate 1 Step) t) t
at_step t u there = there ∙ ap (λ es. run_after es t) (sym (one_met t))

-- t is the machine after the byte
module _ (byte : Option ℕ) (ticks : Bool) (s t : State) (running : is_halted s ≡ false) (at_byte : t ≡ run_after (brought byte) s) where
  pub one_block : up_to_halt (block byte 1 ticks) s ≡ brought byte ++ ((Step ∷ []) ++ ticked_after ticks (after Step t))
  one_block =
      up_to_halt-block byte 1 ticks s t running at_byte (after Step t) (at_step t (after Step t) refl)
      ∙ ap (λ es. brought byte ++ (es ++ ticked_after ticks (after Step t))) (one_met t)

  pub count_of_block : steps_in (up_to_halt (block byte 1 ticks) s) ≡ 1
  count_of_block =
      count_in_block byte 1 ticks s t running at_byte (after Step t) (at_step t (after Step t) refl) ∙ ap steps_in (one_met t)

module _ (schedule : Schedule) (input : List ℕ) where
  no_step_between : (j : ℕ) → 1 ≤ j → j < 1 → ⊥
  no_step_between j some below = omega (arith, some, below)

  -- one step is alone
  pub one_alone : (m : ℕ) → AreAlone schedule input m 1
  one_alone m = record {
    bytes = λ j some below. absurd (no_step_between j some below);
    ticks = λ j some below. absurd (no_step_between j some below);
  }

  -- after the first m steps of s the machine is t
  module _ (m : ℕ) (s t : State) (running : is_halted s ≡ false)
      (so_far : t ≡ run_after (up_to_halt (first_steps schedule input m) s) s) (still : is_halted t ≡ false)
      (few : m + 1 ≤ schedule.steps) (count : steps_in (up_to_halt (first_steps schedule input m) s) ≡ m) where
    follows : first_steps schedule input (m + 1) ≡ first_steps schedule input m ++ nth_block schedule input m 1
    follows = block_follows schedule input m 1 one_is_some (one_alone m)
      where
        one_is_some : 1 ≤ 1
        one_is_some = omega arith

    pub met : up_to_halt (first_steps schedule input (m + 1)) s
        ≡ up_to_halt (first_steps schedule input m) s ++ up_to_halt (nth_block schedule input m 1) t
    met =
        ap (λ es. up_to_halt es s) follows
        ∙ goes_on (first_steps schedule input m) (nth_block schedule input m 1) s t running so_far still

    pub more_count : steps_in (up_to_halt (first_steps schedule input (m + 1)) s) ≡ m + 1
    more_count =
        let done = up_to_halt (first_steps schedule input m) s in
        let next = up_to_halt (nth_block schedule input m 1) t in
        let byte = byte_before schedule input (m + 1) in
        let one : steps_in next ≡ 1 =
        count_of_block byte (is_tick_after schedule (m + 1)) t (run_after (brought byte) t) still refl in
        let both : steps_in (done ++ next) ≡ steps_in done + steps_in next = steps_in-append done next in
        ap steps_in met ∙ omega (arith, both, one, count)

    -- all events of the schedule, past that step
    pub more_whole : (past : List Event) × (up_to_halt (first_steps schedule input m) s
        ++ (up_to_halt (nth_block schedule input m 1) t ++ past) ≡ scheduled schedule input s)
    more_whole =
        let done = up_to_halt (first_steps schedule input m) s in
        let next = up_to_halt (nth_block schedule input m 1) t in
        let past = steps_from schedule input (m + 1) (schedule.steps - (m + 1)) in
        let later = then_up_to_halt past (run_after (up_to_halt (first_steps schedule input (m + 1)) s) s) in (
          later,
          sym (append_assoc done next later) ∙ ap (λ es. es ++ later) (sym met)
              ∙ sym (up_to_halt-append (first_steps schedule input (m + 1)) past s running)
              ∙ ap (λ es. up_to_halt es s) (sym (more_follow schedule input (m + 1) few)),
        )
