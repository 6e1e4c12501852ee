-- A walk over a schedule: its events, with the bytes of an input, from one position to another, and who watches them.
use Rattle.std.specs.Prelude.{◌≡◌, ◌≤◌, ◌<◌, ℕ, ◌+◌, ◌-◌, Bool, true, false, List, [], ◌∷◌, ◌++◌, ⊤, map}
use Rattle.std.specs.Prelude.{option_to_list, replicate, zero, suc, if◌then◌else◌}
use Rattle.steps.specs.declared.event.Event.{Event}
use Rattle.steps.specs.declared.event.Event.TheVariants.{Step, Tick, Byte}
use Rattle.steps.specs.State.{State}
use Rattle.machine.specs.Run.{run_after}
use Rattle.schedules.specs.declared.schedule.Schedule.{Schedule}
use Rattle.schedules.specs.declared.position.Position.{Position}
use Rattle.schedules.specs.declared.pace.How.{How}
use Rattle.schedules.specs.declared.pace.How.TheVariants.{Done, Halted, Stopped, Failed}
use Rattle.schedules.specs.declared.pace.How.TheVariants as how
use Rattle.schedules.specs.Schedule.{byte_before, is_halted, is_tick_after, up_to_halt}

-- the tick that is due
abbrev pub ticking : Bool → List Event
ticking ticks = if ticks then Tick ∷ [] else []

-- the byte that comes before a step, unless it came already
abbrev pub coming : Schedule → List ℕ → Bool → ℕ → List Event
coming schedule input brought step = if brought then [] else map Byte (option_to_list (byte_before schedule input step))

-- the n steps after the first m, each with what comes around it
abbrev pub steps_left : Schedule → List ℕ → Bool → ℕ → ℕ → List Event
steps_left schedule input brought m zero = []
steps_left schedule input brought m (suc n) =
    coming schedule input brought (m + 1) ++ (Step ∷ (ticking (is_tick_after schedule (m + 1))
    ++ steps_left schedule input false (m + 1) n))

-- what is still to come at a position
abbrev pub rest : Schedule → List ℕ → Position → List Event
rest schedule input p = ticking p.owed ++ steps_left schedule input p.brought p.done (schedule.steps - p.done)

-- what a watch remembers of events, or lost of them where it failed, or was barred before a step after them
abbrev pub Tells : {W F : Type 0} → (List Event → State → W → W → Type 0) → (Lost Barred : F → List Event → State → W → W → Type 0)
    → How F → List Event → State → W → W → Type 0
Tells Saw Lost Barred (Failed fault) events s v w = Lost fault events s v w
Tells Saw Lost Barred (how.Barred fault) events s v w = Barred fault events s v w
Tells Saw Lost Barred other events s v w = Saw events s v w

-- a machine that was not halted met events, none after its halt, and the watch was told of each
pub record Met {W F : Type 0} (Saw : List Event → State → W → W → Type 0) (Lost Barred : F → List Event → State → W → W → Type 0)
    (how : How F) (events : List Event) (s t : State) (v w : W) : Type 0 where
  pub state : t ≡ run_after events s
  pub all : up_to_halt events s ≡ events
  pub told : Tells Saw Lost Barred how events s v w

-- a machine met the events from one position to another
pub record Walked {W F : Type 0} (Saw : List Event → State → W → W → Type 0) (Lost Barred : F → List Event → State → W → W → Type 0)
    (schedule : Schedule) (input : List ℕ) (how : How F) (p q : Position) (s t : State) (v w : W) : Type 0 where
  pub events : List Event
  pub order : rest schedule input p ≡ events ++ rest schedule input q
  pub met : Met Saw Lost Barred how events s t v w

-- the next event is a step, whose byte came
abbrev pub IsBeforeStep : Schedule → Position → Type 0
IsBeforeStep schedule p = (p.brought ≡ true) × (p.owed ≡ false) × (p.done < schedule.steps)

-- why a walk ended there
abbrev pub Ends : {W F : Type 0} → (W → State → Bool) → Schedule → List ℕ → How F → Position → State → W → Type 0
Ends stops schedule input Done q t w = (rest schedule input q ≡ []) × (is_halted t ≡ false)
Ends stops schedule input Halted q t w = is_halted t ≡ true
Ends stops schedule input Stopped q t w = (is_halted t ≡ false) × (stops w t ≡ true) × IsBeforeStep schedule q
Ends stops schedule input (how.Barred fault) q t w = (is_halted t ≡ false) × IsBeforeStep schedule q
Ends stops schedule input (Failed fault) q t w = ⊤

-- before the last of so many steps the machine is not halted
abbrev pub AreRunning : ℕ → State → Type 0
AreRunning n s = (k : ℕ) → k < n → is_halted (run_after (replicate k Step) s) ≡ false

-- a watch can be told of more, where it did not fail
abbrev pub StaysReady : {W F : Type 0} → (W → Type 0) → How F → W → Type 0
StaysReady IsReady (Failed fault) w = ⊤
StaysReady IsReady (how.Barred fault) w = ⊤
StaysReady IsReady other w = IsReady w

-- how a turn of n steps ended
abbrev pub EndsTurn : {W F : Type 0} → (W → State → Bool) → How F → ℕ → State → W → Type 0
EndsTurn stops Done n t w = 1 ≤ n
EndsTurn stops Halted n t w = ⊥
EndsTurn stops Stopped n t w = (is_halted t ≡ false) × (stops w t ≡ true) × (n ≡ 0)
EndsTurn stops (how.Barred fault) n t w = (is_halted t ≡ false) × (n ≡ 0)
EndsTurn stops (Failed fault) n t w = ⊤

-- how `count` steps ended after n of them
abbrev pub EndsSteps : {W F : Type 0} → (W → State → Bool) → ℕ → How F → ℕ → State → W → Type 0
EndsSteps stops count Done n t w = (n ≡ count) × (is_halted t ≡ false)
EndsSteps stops count Halted n t w = is_halted t ≡ true
EndsSteps stops count Stopped n t w = (is_halted t ≡ false) × (stops w t ≡ true) × (n < count)
EndsSteps stops count (how.Barred fault) n t w = (is_halted t ≡ false) × (n < count)
EndsSteps stops count (Failed fault) n t w = ⊤

-- n steps of a machine, none after its halt, and the watch was told of them
pub record WentBy {W F : Type 0} (Saw : List Event → State → W → W → Type 0) (Lost Barred : F → List Event → State → W → W → Type 0)
    (how : How F) (n : ℕ) (s t : State) (v w : W) : Type 0 where
  pub state : t ≡ run_after (replicate n Step) s
  pub running : AreRunning n s
  pub told : Tells Saw Lost Barred how (replicate n Step) s v w

-- how a block of steps ended
abbrev pub EndsBlock : {W F : Type 0} → (W → State → Bool) → Schedule → How F → Position → Position → State → W → Type 0
EndsBlock stops schedule Done p q t w = (is_halted t ≡ false) × (q.owed ≡ false) × (p.done < q.done)
EndsBlock stops schedule Halted p q t w = is_halted t ≡ true
EndsBlock stops schedule Stopped p q t w = (is_halted t ≡ false) × (stops w t ≡ true) × IsBeforeStep schedule q
EndsBlock stops schedule (how.Barred fault) p q t w = (is_halted t ≡ false) × IsBeforeStep schedule q
EndsBlock stops schedule (Failed fault) p q t w = ⊤
