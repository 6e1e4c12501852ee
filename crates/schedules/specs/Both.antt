-- Two watches together: where one fails, what the other was told.
use Rattle.std.specs.Prelude.{◌≡◌, ◌⊎◌, List, ◌++◌}
use Rattle.steps.specs.declared.event.Event.{Event}
use Rattle.steps.specs.State.{State}
use Rattle.machine.specs.Run.{run_after}
use Rattle.schedules.specs.declared.both.Either.{Either}
use Rattle.schedules.specs.declared.both.Either.TheVariants.{First, Second}

-- a watch was told of all events, and maybe asked before the next step
pub record WasAsked {W : Type 0} (Saw : List Event → State → W → W → Type 0) (Asked : State → W → W → Type 0)
    (events : List Event) (s : State) (v w : W) : Type 0 where
  pub there : W
  pub saw : Saw events s v there
  pub asked : Asked (run_after events s) there w

-- a watch was told of the first of some events
pub record Begins {W : Type 0} (Saw : List Event → State → W → W → Type 0) (Asked : State → W → W → Type 0) (events : List Event)
    (s : State) (v w : W) : Type 0 where
  pub done : List Event
  pub more : List Event
  pub order : events ≡ done ++ more
  pub saw : Saw done s v w ⊎ WasAsked Saw Asked done s v w

-- the first failed, and the second was told of a beginning, maybe of all but the last event, before which it was asked; or the second
-- failed, and the first was told of all
abbrev pub LostBoth : {A B F G : Type 0} → (List Event → State → A → A → Type 0) → (F → List Event → State → A → A → Type 0)
    → (List Event → State → B → B → Type 0) → (G → List Event → State → B → B → Type 0) → (State → B → B → Type 0)
    → Either F G → List Event → State → A → A → B → B → Type 0
LostBoth SawA LostA SawB LostB AskedB (First fault) es s a c b d = LostA fault es s a c × Begins SawB AskedB es s b d
LostBoth SawA LostA SawB LostB AskedB (Second fault) es s a c b d = LostB fault es s b d × SawA es s a c

-- the first failed before a step of which the second wasn't asked; or the second, and the first was asked
abbrev pub BarredBoth : {A B F G : Type 0} → (List Event → State → A → A → Type 0) → (F → List Event → State → A → A → Type 0)
    → (State → A → A → Type 0) → (List Event → State → B → B → Type 0) → (G → List Event → State → B → B → Type 0)
    → Either F G → List Event → State → A → A → B → B → Type 0
BarredBoth SawA BarredA AskedA SawB BarredB (First fault) es s a c b d = BarredA fault es s a c × SawB es s b d
BarredBoth SawA BarredA AskedA SawB BarredB (Second fault) es s a c b d = BarredB fault es s b d × WasAsked SawA AskedA es s a c
