-- Stretches: runs in which the outcome of every event is plain, up to the end of the list or to the first event that is not.
use Rattle.std.specs.Prelude.{◌≡◌, ℕ, ◌≤◌, List, [], ◌∷◌, length, take, drop, Option, None, Some}
use Rattle.steps.specs.declared.ends.Why.{Why}
use Rattle.steps.specs.declared.event.Event.{Event}
use Rattle.steps.specs.Ends.{why_of}
use Rattle.steps.specs.Event.{after, outcome}
use Rattle.steps.specs.IsEvent.{IsEvent}
use Rattle.steps.specs.IsState.{IsState}
use Rattle.steps.specs.Outcome.{Plain}
use Rattle.steps.specs.State.{State}
use Rattle.authority.specs.Worlds.{Agree}
use Rattle.machine.specs.Run.{run_after, run_sent}

-- each event is plain in its turn
abbrev pub ArePlain : List Event → State → Type 0
ArePlain [] s = Unit {0}
ArePlain (e ∷ es) s = (outcome e s ≡ Plain) × ArePlain es (after e s)

-- each is an event
abbrev pub AreEvents : List Event → Type 0
AreEvents [] = Unit {0}
AreEvents (e ∷ es) = IsEvent e × AreEvents es

-- A plain run: from a state, over events each of which is plain in its turn.
pub record IsPlainRun (events : List Event) (s : State) : Type 0 where
  pub state : IsState s
  pub are_events : AreEvents events
  pub are_plain : ArePlain events s

-- A stretch ends with its list, or before an event whose outcome is not plain, and says why.
abbrev pub EndsBefore : Option Why → List Event → State → Type 0
EndsBefore None rest s = rest ≡ []
EndsBefore (Some why) [] s = ⊥
EndsBefore (Some why) (e ∷ es) s = why_of (outcome e s) ≡ Some why

-- The stretch from a state over a list of events: it meets the first `done`, all of them plain, and ends there for the reason `why`.
pub record IsStretch (events : List Event) (done : ℕ) (why : Option Why) (s : State) : Type 0 where
  pub some : done ≤ length events
  pub plain : ArePlain (take done events) s
  pub end : EndsBefore why (drop done events) (run_after (take done events) s)

-- Over the same events two states send the same bytes, and come to states that agree.
pub record IsTwin (events : List Event) (s t : State) : Type 0 where
  pub bytes : run_sent events t ≡ run_sent events s
  pub agree : Agree (run_after events s) (run_after events t)

-- The second state's stretch is the first's: as many events, the same reason, and after each of them the same bytes and agreement.
pub record IsSameStretch (events : List Event) (done : ℕ) (why : Option Why) (s t : State) : Type 0 where
  pub stretch : IsStretch events done why t
  pub twins : (k : ℕ) → k ≤ done → IsTwin (take k events) s t
