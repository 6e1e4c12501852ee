-- Runs that rules watch.
use Rattle.std.specs.Prelude.{◌≡◌, ℕ, ◌<◌, ◌≤◌, ◌≢◌, ◌++◌, List, length, take}
use Rattle.std.specs.List.{HoldsAt}
use Rattle.steps.specs.declared.event.Event.{Event}
use Rattle.steps.specs.Event.{outcome}
use Rattle.steps.specs.Outcome.{Trap, Unseal}
use Rattle.steps.specs.State.{State}
use Rattle.machine.specs.Run.{run_after, run_sent}
use Rattle.policy.specs.Terms.{Terms}
use Rattle.policy.specs.Watch.{Applies, KeepsToEach, fetched_at}
use Rattle.policy.specs.Lending.{in_force}

-- each of the first events of a run keeps to each rule that applies, by the terms in force
abbrev pub KeepToEach : List Terms → List Event → ℕ → State → Type 0
KeepToEach rules events done s =
    (k : ℕ) → k < done → HoldsAt (λ e. KeepsToEach (in_force rules (take k events) s) e (run_after (take k events) s)) events k

-- the rule applies before each of them
abbrev pub AppliesToEach : Terms → List Event → ℕ → State → Type 0
AppliesToEach rule events done s = (k : ℕ) → k < done → Applies rule (fetched_at (run_after (take k events) s))

-- none of them traps
abbrev pub NoneTraps : List Event → ℕ → State → Type 0
NoneTraps events done s = (k : ℕ) → k < done → HoldsAt (λ e. outcome e (run_after (take k events) s) ≢ Trap) events k

-- none of them unseals
abbrev pub NoneUnseals : List Event → ℕ → State → Type 0
NoneUnseals events done s = (k : ℕ) → k < done → HoldsAt (λ e. outcome e (run_after (take k events) s) ≢ Unseal) events k

-- a run over the first `done` of some events, with the bytes that it sends
pub record IsRunOf (events : List Event) (done : ℕ) (s later : State) (out out_later : List ℕ) : Type 0 where
  pub some : done ≤ length events
  pub state : later ≡ run_after (take done events) s
  pub bytes : out_later ≡ out ++ run_sent (take done events) s

-- it stands after some of the events
pub record StandsMidway (rules : List Terms) (events : List Event) (s later : State) (out out_later : List ℕ) : Type 0 where
  pub done : ℕ
  pub run : IsRunOf events done s later out out_later
  pub kept : KeepToEach rules events done s
