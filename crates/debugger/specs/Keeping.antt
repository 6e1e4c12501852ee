-- How a command's events are kept: the past has one command more before its first event, and what it gave in its place after the last.
use Rattle.std.specs.Prelude.{Bool, ◌^◌, ◌≤◌, [], ◌∷◌, ◌++◌, length, Option, Some, None}
use Rattle.debug_commands.specs.declared.command.Events.{Events}
use Rattle.debug_commands.specs.declared.command.Events.TheVariants.{Changed}
use Rattle.debug_commands.specs.declared.command.Recall.{Recall}
use Rattle.debug_commands.specs.declared.command.Recall.TheVariants.{Ago, Origin, Lost, Calls}
use Rattle.hart.specs.Opening.{opening}
use Rattle.steps.specs.State.{State}
use Rattle.origins.specs.Places.{IsThere}
use Rattle.past.specs.Anchor.{AnchorState, IsKeptOn}
use Rattle.past.specs.Given.{PastState, but_last, count_of}
use Rattle.past.specs.Replay.{ReplayState}
use Rattle.past.specs.declared.given.Given.{Given}
use Rattle.past.specs.declared.given.Given.TheVariants as gave
use Rattle.debugger.specs.SessionState.{HasItsPast, TimelineState}

-- there is the place whose value is to differ
abbrev pub IsChangeThere : Events → State → Type 0
IsChangeThere (Changed place n) s = IsThere place s
IsChangeThere other s = Unit {0}

-- a past with one command more, which gave nothing yet; and with another in place of the last
abbrev pub begun_past : PastState → PastState
begun_past past = record past { given = past.given ++ gave.Steps 0 ∷ [] }

abbrev pub kept_last : Given → PastState → PastState
kept_last given past = record past { given = but_last past.given ++ given ∷ [] }

abbrev pub HasBegun : Option PastState → Type 0
HasBegun (Some past) = (1 ≤ length past.given) × (count_of (but_last past.given) ≤ 2 ^ 63)
HasBegun None = Unit {0}

-- there is the place that is asked for
abbrev pub IsRecalledThere : Recall → PastState → Type 0
IsRecalledThere Ago past = Unit {0}
IsRecalledThere (Origin place) past = IsThere place (opening past.image)
IsRecalledThere (Lost place) past = IsThere place (opening past.image)
IsRecalledThere Calls past = Unit {0}

-- an anchor that a session keeps lies in its past
abbrev pub IsAnchored : Option AnchorState → Option PastState → Option ReplayState → Type 0
IsAnchored anchor (Some past) replay = IsKeptOn (count_of past.given) anchor past replay
IsAnchored anchor None replay = Unit {0}

-- what is true of a timeline and its anchor
pub record IsKept (time : TimelineState) (anchor : Option AnchorState) : Type 0 where
  pub past : HasItsPast time
  pub anchored : IsAnchored anchor time.past time.replay

-- a timeline of these parts
abbrev pub timeline : State → Option ReplayState → Bool → Option PastState → TimelineState
timeline machine replay owed past = record { machine = machine; replay = replay; owed = owed; past = past }
