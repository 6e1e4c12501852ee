-- Turns: runs that go on through sealed jumps, up to the end of the list or to the first event that traps or unseals.
use Rattle.std.specs.Prelude.{◌≡◌, List, [], ◌∷◌, ◌⊎◌, Option, None, Some}
use Rattle.steps.specs.declared.ends.Why.{Why}
use Rattle.steps.specs.declared.ends.Why.TheVariants as why
use Rattle.steps.specs.declared.event.Event.{Event}
use Rattle.steps.specs.Event.{after, outcome}
use Rattle.steps.specs.IsState.{IsState}
use Rattle.steps.specs.Outcome.{Outcome, Plain, Trap, Unseal, SealedJump}
use Rattle.steps.specs.State.{State}
use Rattle.machine.specs.Stretch.{AreEvents}

-- an outcome that ends a turn, as the reason
abbrev pub turn_why_of : Outcome → Option Why
turn_why_of Trap = Some why.Trap
turn_why_of Unseal = Some why.Unseal
turn_why_of other = None

-- the event is plain, or a sealed jump
abbrev pub IsPlainOrJump : Event → State → Type 0
IsPlainOrJump e s = (outcome e s ≡ Plain) ⊎ (outcome e s ≡ SealedJump)

-- each event is so in its turn
abbrev pub ArePlainOrJumps : List Event → State → Type 0
ArePlainOrJumps [] s = Unit {0}
ArePlainOrJumps (e ∷ es) s = IsPlainOrJump e s × ArePlainOrJumps es (after e s)

-- A run in one turn: from a state, over events none of which traps or unseals in its turn.
pub record IsTurn (events : List Event) (s : State) : Type 0 where
  pub state : IsState s
  pub are_events : AreEvents events
  pub are_plain_or_jumps : ArePlainOrJumps events s
