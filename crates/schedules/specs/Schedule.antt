-- A run on a schedule: which events come in which order, and what of them was done where a byte could not be written.
use Rattle.std.specs.Prelude.{◌≡◌, ◌≤◌, ◌<◌, ℕ, ◌+◌, ◌-◌, ◌/◌, ◌%◌, ◌==◌, ◌&&◌, not, Bool, true, false, List, [], ◌∷◌, ◌++◌, Option, None}
use Rattle.std.specs.Prelude.{Some, is_some, map}
use Rattle.std.specs.Prelude.{option_to_list, replicate, slice_get, zero, suc, if◌then◌else◌}
use Rattle.std.specs.Io.KnownBytes.{Appends}
use Rattle.steps.specs.declared.event.Event.{Event}
use Rattle.steps.specs.declared.event.Event.TheVariants.{Step, Tick, Byte}
use Rattle.steps.specs.State.{State}
use Rattle.steps.specs.Event.{after, sent}
use Rattle.machine.specs.Run.{run_after, run_sent}
use Rattle.schedules.specs.declared.schedule.Schedule.{Schedule}

-- the ranges of a schedule
pub record IsInRange (schedule : Schedule) : Type 0 where
  pub some_step : 1 ≤ schedule.steps
  pub steps : schedule.steps ≤ 100000000
  pub some_gap : 1 ≤ schedule.gap
  pub gap : schedule.gap ≤ 1000000
  pub tick : schedule.tick ≤ 1000000

-- what a run asks of a schedule, which may be a million times as long, or of no step
pub record IsRunnable (schedule : Schedule) : Type 0 where
  pub steps : schedule.steps ≤ 100000000000000
  pub some_gap : 1 ≤ schedule.gap
  pub gap : schedule.gap ≤ 1000000
  pub tick : schedule.tick ≤ 1000000

-- Byte i of the input, counted from 0, comes just before step number 1 + i * gap.
unfoldable pub byte_before : Schedule → List ℕ → ℕ → Option ℕ
byte_before schedule input step =
    if (step - 1) % schedule.gap == 0 then slice_get input ((step - 1) / schedule.gap) else None

-- A tick comes after each step whose number is a multiple of the tick; at 0 there is none.
abbrev pub ticks_after : ℕ → ℕ → Bool
ticks_after tick step = not (tick == 0) && step % tick == 0

unfoldable pub is_tick_after : Schedule → ℕ → Bool
is_tick_after schedule step = ticks_after schedule.tick step

-- a step, with the byte before it and the tick after it
abbrev pub around : Option ℕ → Bool → List Event
around byte ticks = map Byte (option_to_list byte) ++ Step ∷ (if ticks then Tick ∷ [] else [])

-- so many steps, with the byte before the first of them and the tick after the last
abbrev pub block : Option ℕ → ℕ → Bool → List Event
block byte n ticks = map Byte (option_to_list byte) ++ (replicate n Step ++ (if ticks then Tick ∷ [] else []))

-- the events of the first steps
abbrev pub first_steps : Schedule → List ℕ → ℕ → List Event
first_steps schedule input zero = []
first_steps schedule input (suc n) =
    first_steps schedule input n ++ around (byte_before schedule input (n + 1)) (is_tick_after schedule (n + 1))

-- how many of the events are steps
abbrev pub steps_in : List Event → ℕ
steps_in [] = 0
steps_in (Step ∷ es) = suc (steps_in es)
steps_in (Tick ∷ es) = steps_in es
steps_in (Byte b ∷ es) = steps_in es

-- Between the n steps after the first m comes no byte, and no tick.
pub record AreAlone (schedule : Schedule) (input : List ℕ) (m n : ℕ) : Type 0 where
  pub bytes : (j : ℕ) → 1 ≤ j → j < n → byte_before schedule input (m + j + 1) ≡ None
  pub ticks : (j : ℕ) → 1 ≤ j → j < n → is_tick_after schedule (m + j) ≡ false

abbrev pub is_halted : State → Bool
is_halted s = is_some s.devices.halted

-- of a machine's events those up to the one that halts it; after it nothing more comes
abbrev pub up_to_halt : List Event → State → List Event
up_to_halt [] s = []
up_to_halt (e ∷ es) s = e ∷ (if is_halted (after e s) then [] else up_to_halt es (after e s))

-- all events of a run
abbrev pub scheduled : Schedule → List ℕ → State → List Event
scheduled schedule input s = up_to_halt (first_steps schedule input schedule.steps) s

-- the events of a schedule before the step of a number: those of the steps before it, and the byte that comes just before it
abbrev pub events_before : Option ℕ → Schedule → List ℕ → State → List Event
events_before None schedule input s = scheduled schedule input s
events_before (Some number) schedule input s =
    up_to_halt (first_steps schedule input (number - 1)) s ++ map Byte (option_to_list (byte_before schedule input number))

-- the number of a step of a schedule
abbrev pub IsPlaceOf : Schedule → ℕ → Type 0
IsPlaceOf schedule number = (1 ≤ number) × (number ≤ schedule.steps)

-- The machine met the events up to the one whose byte was not written, and the bytes before it were written.
pub record IsCutShort (events : List Event) (old new : State) (held_old held_new : Option (List ℕ)) : Type 0 where
  pub done : List Event
  pub last : Event
  pub rest : List Event
  pub order : events ≡ done ++ last ∷ rest
  pub state : new ≡ after last (run_after done old)
  pub unwritten : is_some (sent last (run_after done old)) ≡ true
  pub held : Appends held_old held_new (run_sent done old)
