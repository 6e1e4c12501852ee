-- Sets of states that no event leaves.
use Rattle.std.specs.Prelude.{◌≡◌, false, List}
use Rattle.std.specs.List.{list_any}
use Rattle.steps.specs.declared.event.Event.{Event}
use Rattle.steps.specs.Event.{after}
use Rattle.steps.specs.IsEvent.{IsEvent}
use Rattle.steps.specs.IsState.{IsState}
use Rattle.steps.specs.State.{State}
use Rattle.policy.specs.Terms.{Terms}
use Rattle.policy.specs.Watch.{HoldEach}

-- no event leads out of it
abbrev pub StaysIn : (State → Type 0) → Type 0
StaysIn P = (e : Event) (s : State) → IsEvent e → IsState s → P s → P (after e s)

-- in each of its states the rules that apply hold
abbrev pub HoldIn : List Terms → (State → Type 0) → Type 0
HoldIn rules P = (s : State) → IsState s → P s → HoldEach rules s

-- no rule allows what the caller of its code could reach
abbrev pub LendsNothing : List Terms → Type 0
LendsNothing rules = list_any (λ rule. rule.or_caller) rules ≡ false
