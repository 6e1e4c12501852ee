-- What a session holds: its machine, the labels that its commands may name, the schedule that its steps follow if one is given, where `go`
-- stops, and what it was given since the opening state of its image, if it has one.
use Rattle.std.specs.Prelude.{◌≡◌, ℕ, Bool, false, not, ◌&&◌, List, [], Option, Some, None, option_map}
use Rattle.hart.specs.Opening.{opening}
use Rattle.steps.specs.State.{State}
use Rattle.image.specs.Image.{Image}
use Rattle.symbols.specs.Symbols.{Symbol}
use Rattle.schedules.specs.Schedule.{is_halted}
use Rattle.schedules.specs.declared.schedule.Schedule.{Schedule}
use Rattle.debug_commands.specs.declared.command.Stop.{Stop}
use Rattle.machine.specs.Run.{run_after}
use Rattle.past.specs.Given.{PastState, past_events, past_of, position_of}
use Rattle.past.specs.Position.{beginning, rewound}
use Rattle.past.specs.Replay.{ReplayState, replay_from}

pub record SessionState : Type 0 where
  pub machine : State
  pub symbols : List Symbol
  pub replay : Option ReplayState
  -- the tick after the last step is to come yet: the session was taken back to between the two, or stopped there
  pub owed : Bool
  pub stops : List Stop
  pub past : Option PastState

-- what events change of it
pub record TimelineState : Type 0 where
  pub machine : State
  pub replay : Option ReplayState
  pub owed : Bool
  pub past : Option PastState

abbrev pub session_with : TimelineState → List Symbol → List Stop → SessionState
session_with time symbols stops = record {
  machine = time.machine;
  symbols = symbols;
  replay = time.replay;
  owed = time.owed;
  stops = stops;
  past = time.past;
}

abbrev pub begun : State → Option ReplayState → Option PastState → TimelineState
begun machine replay past = record { machine = machine; replay = replay; owed = false; past = past }

-- a session as it begins, without a schedule and without a past
abbrev pub session_state : State → List Symbol → SessionState
session_state machine symbols = session_with (begun machine None None) symbols []

-- with a past: in the opening state of an image, on a schedule with this input if there is one
abbrev pub session_of_image : Image → List Symbol → Option Schedule → List ℕ → SessionState
session_of_image image symbols schedule input =
    session_with (begun (opening image) (option_map (λ s. replay_from s input) schedule) (Some (past_of image []))) symbols []

-- ---- the past

-- The machine stands where the events of the past lead from the image's opening state, and the session's steps where they stand then.
pub record StandsAfter (past : PastState) (replay : Option ReplayState) (owed : Bool) (s : State) : Type 0 where
  pub machine : s ≡ run_after (past_events past replay) (opening past.image)
  pub steps : (position_of past.given (beginning replay)).replay ≡ replay
  pub tick : owed ≡ ((position_of past.given (beginning replay)).owed && not (is_halted s))

abbrev pub StandsThere : Option PastState → Option ReplayState → Bool → State → Type 0
StandsThere (Some past) replay owed s = StandsAfter past replay owed s
StandsThere None replay owed s = Unit {0}

-- a schedule before its first step, or none
abbrev pub IsBeginning : Option ReplayState → Type 0
IsBeginning replay = option_map rewound replay ≡ replay

-- what is true of every session
abbrev pub HasItsPast : TimelineState → Type 0
HasItsPast time = StandsThere time.past time.replay time.owed time.machine
