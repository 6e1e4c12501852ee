-- What a walk over a whole schedule came to.
use Rattle.std.specs.Prelude.{◌≡◌, ◌<◌, ℕ, ◌+◌, Bool, true, false, List, ◌∷◌, ◌++◌, map, option_to_list}
use Rattle.steps.specs.declared.event.Event.{Event}
use Rattle.steps.specs.declared.event.Event.TheVariants.{Step, Byte}
use Rattle.steps.specs.State.{State}
use Rattle.machine.specs.Run.{run_after}
use Rattle.schedules.specs.declared.pace.How.{How}
use Rattle.schedules.specs.declared.pace.How.TheVariants.{Done, Halted, Stopped, Failed}
use Rattle.schedules.specs.declared.pace.How.TheVariants as how
use Rattle.schedules.specs.declared.schedule.Schedule.{Schedule}
use Rattle.schedules.specs.Schedule.{byte_before, first_steps, is_halted, scheduled, steps_in, up_to_halt}

-- a machine met events, none after its halt, and a watch was told of them
pub record Met {W : Type 0} (Saw : List Event → State → W → W → Type 0) (events : List Event) (n : ℕ) (s t : State) (v w : W) : Type 0 where
  pub state : t ≡ run_after events s
  pub all : up_to_halt events s ≡ events
  pub told : Saw events s v w
  pub steps : n ≡ steps_in events

-- it met those that a schedule's begin with
pub record MetFirst {W : Type 0} (Saw : List Event → State → W → W → Type 0) (all : List Event) (n : ℕ) (s t : State) (v w : W)
    : Type 0 where
  pub events : List Event
  pub more : List Event
  pub order : all ≡ events ++ more
  pub met : Met Saw events n s t v w

-- it met those before the step after n others: those of the steps before it, and the byte that comes just before it
pub record MetBeforeStep {W : Type 0} (Saw : List Event → State → W → W → Type 0) (schedule : Schedule) (input : List ℕ) (n : ℕ)
    (s t : State)
    (v w : W)
    : Type 0 where
  pub few : n < schedule.steps
  pub events : List Event
  pub more : List Event
  pub order : scheduled schedule input s ≡ events ++ Step ∷ more
  pub place : events ≡ first_steps schedule input n ++ map Byte (option_to_list (byte_before schedule input (n + 1)))
  pub met : Met Saw events n s t v w

-- by how the walk ended
abbrev pub Whole : {W F : Type 0} → (List Event → State → W → W → Type 0) → (Lost Barred : F → List Event → State → W → W → Type 0)
    → (W → State → Bool) → Schedule → List ℕ → How F → ℕ → State → State → W → W → Type 0
Whole Saw Lost Barred stops schedule input Done n s t v w = Met Saw (scheduled schedule input s) n s t v w × (is_halted t ≡ false)
Whole Saw Lost Barred stops schedule input Halted n s t v w = Met Saw (scheduled schedule input s) n s t v w × (is_halted t ≡ true)
Whole Saw Lost Barred stops schedule input Stopped n s t v w =
    MetBeforeStep Saw schedule input n s t v w × (is_halted t ≡ false) × (stops w t ≡ true)
Whole Saw Lost Barred stops schedule input (Failed fault) n s t v w = MetFirst (Lost fault) (scheduled schedule input s) n s t v w
Whole Saw Lost Barred stops schedule input (how.Barred fault) n s t v w =
    MetBeforeStep (Barred fault) schedule input n s t v w × (is_halted t ≡ false)
