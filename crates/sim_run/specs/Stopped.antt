-- What a search for the step to stop before remembers. No definition of a run needs this.
use Rattle.std.specs.Prelude.{◌≡◌, ℕ, ◌+◌, false, Option, Some, None, is_some, List, [], ◌∷◌, ⊤}
use Rattle.steps.specs.declared.event.Event.{Event}
use Rattle.steps.specs.declared.event.Event.TheVariants.{Step, Tick, Byte}
use Rattle.steps.specs.Event.{after}
use Rattle.steps.specs.State.{State}
use Rattle.schedules.specs.declared.pace.Pace.{Pace}
use Rattle.schedules.specs.declared.pace.Speed.TheVariants.{Each, Short}
use Rattle.sim_run.specs.declared.notes.First.{First}
use Rattle.sim_run.specs.declared.stopping.StopAt.{StopAt}
use Rattle.sim_run.specs.declared.stopping.StopAt.TheVariants.{Double}
use Rattle.sim_run.specs.Stopping.{is_stop}
use Rattle.sim_run.specs.Unhandled.{Open, Traps, after_step, level_left, traps_after}
use Rattle.sim_run.specs.Watched.{IsTaken}

-- no step among the events, after so many that left these traps, is one to stop before
abbrev pub PassesStops : StopAt → ℕ → Traps → List Event → State → Type 0
PassesStops at done left [] s = ⊤
PassesStops at done left (Step ∷ es) s =
    (is_stop at (is_some left.first) s ≡ false) × PassesStops at (done + 1) (after_step (done + 1) s left) es (after Step s)
PassesStops at done left (Tick ∷ es) s = PassesStops at done left es (after Tick s)
PassesStops at done left (Byte b ∷ es) s = PassesStops at done left es (after (Byte b) s)

-- the only trap that is open, whatever its number
abbrev pub IsOnly : Option First → Option Open → Type 0
IsOnly None None = ⊤
IsOnly None (Some open_trap) = ⊥
IsOnly (Some first) None = ⊥
IsOnly (Some first) (Some open_trap) =
    (first.level ≡ level_left open_trap.before) × (first.inner ≡ 0) × (open_trap.inner ≡ 0)
    × IsTaken first.fault first.pc open_trap.before

-- where a second trap is looked for, the first is known
abbrev pub Knows : StopAt → Option First → Traps → Type 0
Knows Double only left = IsOnly only left.first
Knows other only left = ⊤

-- the events passed no stop, and what was known of the traps before them is known after them
abbrev pub Searched : StopAt → Option First → Option First → List Event → State → Type 0
Searched at before now events s =
    (done : ℕ) (left : Traps) → Knows at before left
    → PassesStops at done left events s × Knows at now (traps_after done left events s)

-- where a trap is open, step by step: a return is plain
abbrev pub stop_pace : Option First → Pace
stop_pace None = record { speed = Short None; most = 18446744073709551615 }
stop_pace (Some first) = record { speed = Each; most = 18446744073709551615 }
