-- What steps that are done in one call are to a run for C.
use Rattle.std.specs.Prelude.{◌≡◌, ℕ, ◌+◌, ◌-◌, ◌<◌, ◌≤◌, true, false, [], ◌++◌, length, replicate, Option, None, option_to_list}
use Rattle.steps.specs.declared.event.Event.TheVariants.{Step}
use Rattle.steps.specs.Event.{outcome}
use Rattle.steps.specs.Outcome.{Plain}
use Rattle.steps.specs.State.{State}
use Rattle.machine.specs.Run.{run_after, run_sent}
use Rattle.cherisim_c.specs.declared.types.RunAsked.{RunAsked}
use Rattle.schedules.specs.Schedule.{steps_in, ticks_after}
use Rattle.cherisim_c.specs.Running.{is_at_stop, run_from}

-- a state that steps of a run go by: it runs, it is not at the address where the run stops, and where the run stops at ends its step is
-- plain
pub record GoesOn (a : RunAsked) (s : State) : Type 0 where
  pub running : s.devices.halted ≡ None
  pub elsewhere : is_at_stop a s ≡ false
  pub no_end : a.at_end ≡ true → outcome Step s ≡ Plain

-- so many steps go by such states, and none but the last of them sends
pub record WalksOn (a : RunAsked) (count : ℕ) (s : State) : Type 0 where
  pub goes : (j : ℕ) → 1 ≤ j → j < count → GoesOn a (run_after (replicate j Step) s)
  pub silent : run_sent (replicate (count - 1) Step) s ≡ []

-- between so many steps after the step of a number comes no tick
abbrev pub NoTicks : RunAsked → ℕ → ℕ → Type 0
NoTicks a before count = (j : ℕ) → 1 ≤ j → j < count → ticks_after a.tick (before + j) ≡ false

-- A run from a state goes on from the state after so many of its steps, with the tick after the last of them: what it comes to is the same.
pub record GoesOnFrom (a : RunAsked) (before left room count : ℕ) (byte : Option ℕ) (s t : State) : Type 0 where
  pub state : run_after (run_from a before left room s) s
      ≡ run_after (run_from a (before + count) (left - count) (room - length (option_to_list byte)) t) t
  pub sent : run_sent (run_from a before left room s) s
      ≡ option_to_list byte ++ run_sent (run_from a (before + count) (left - count) (room - length (option_to_list byte)) t) t
  pub steps : steps_in (run_from a before left room s)
      ≡ count + steps_in (run_from a (before + count) (left - count) (room - length (option_to_list byte)) t)
