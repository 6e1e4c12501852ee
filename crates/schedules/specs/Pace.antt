-- How fast a watch lets a machine go, and what it then knows of the steps that it is told of at once.
use Rattle.std.specs.Prelude.{ℕ, ◌<◌, ◌==◌, if◌then◌else◌, Some, None, max, min, replicate, ⊤}
use Rattle.steps.specs.declared.event.Event.TheVariants.{Step}
use Rattle.steps.specs.State.{State}
use Rattle.steps.specs.Steps.{GoesBy}
use Rattle.machine.specs.Run.{run_after}
use Rattle.schedules.specs.declared.pace.Pace.{Pace}
use Rattle.schedules.specs.declared.pace.Speed.{Speed}
use Rattle.schedules.specs.declared.pace.Speed.TheVariants.{Each, Short, Any}

-- the most steps at once, one at least
abbrev pub most_of : Pace → ℕ
most_of p = max p.most 1

-- the slower of two: two different addresses to stop short of are step by step
abbrev pub slower_speed : Speed → Speed → Speed
slower_speed Each other = Each
slower_speed Any other = other
slower_speed (Short stop) Each = Each
slower_speed (Short stop) Any = Short stop
slower_speed (Short None) (Short other) = Short other
slower_speed (Short (Some a)) (Short None) = Short (Some a)
slower_speed (Short (Some a)) (Short (Some b)) = if a == b then Short (Some a) else Each

abbrev pub slower : Pace → Pace → Pace
slower p q = record { speed = slower_speed p.speed q.speed; most = min (most_of p) (most_of q) }

-- what a watch knows of n steps from a state on that went at once
abbrev pub GoBy : Speed → ℕ → State → Type 0
GoBy Each n s = ⊥
GoBy (Short stop) n s = (k : ℕ) → k < n → GoesBy stop (run_after (replicate k Step) s)
GoBy Any n s = ⊤
