-- A place on the way of a session, kept so that what came after it can be given again without what came before it.
use Rattle.std.specs.Prelude.{◌≡◌, ℕ, ◌≤◌, Bool, false, Option, Some, None, option_map}
use Rattle.hart.specs.Opening.{opening}
use Rattle.image.specs.Image.{Image}
use Rattle.steps.specs.State.{State}
use Rattle.past.specs.Given.{PastState, position_at, state_at}
use Rattle.past.specs.Giving.{HasSameSize}
use Rattle.past.specs.Position.{Position, at, standing_at}
use Rattle.past.specs.Replay.{ReplayState}

-- A machine after so many events; how many steps of the session's schedule were given there, whether the byte before the next of them was,
-- and whether the tick after the last is to come yet.
pub record AnchorState : Type 0 where
  pub events : ℕ
  pub machine : State
  pub done : ℕ
  pub brought : Bool
  pub owed : Bool

-- before the first event
abbrev pub opening_anchor : Image → AnchorState
opening_anchor image = record { events = 0; machine = opening image; done = 0; brought = false; owed = false }

-- where the session's steps stand there
abbrev pub stood : AnchorState → Option ReplayState → Position
stood a replay = at (option_map (standing_at a.done a.brought) replay) a.owed

-- It lies on the way of a session with this past and this schedule, after n events at most.
pub record LiesOn (n : ℕ) (a : AnchorState) (past : PastState) (replay : Option ReplayState) : Type 0 where
  pub few : a.events ≤ n
  pub machine : a.machine ≡ state_at a.events past replay
  pub steps : stood a replay ≡ position_at a.events past replay
  pub size : HasSameSize (opening past.image) a.machine

-- of a session that keeps one or none
abbrev pub IsKeptOn : ℕ → Option AnchorState → PastState → Option ReplayState → Type 0
IsKeptOn n (Some a) past replay = LiesOn n a past replay
IsKeptOn n None past replay = Unit {0}
