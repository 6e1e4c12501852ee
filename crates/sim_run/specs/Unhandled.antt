-- The trap that nothing handled. A trap opens where it is taken, and those that its own handler takes open inside it: of the open ones the
-- first is the cause. What an MRET returns from is handled, the last that is open. A step at the level where the first was taken, where its
-- entry has another, has handled all: a handler may leave by a jump.
-- It is told of a run that ends with a trap, beside the last: the first trap since the last step that was none. Where a program has no
-- handler the two are one, and each step after it is a trap again, of the fetch at the entry.
use Rattle.std.specs.Prelude.{ℕ, ◌+◌, ◌-◌, ◌==◌, ◌&&◌, Bool, true, false, if◌then◌else◌, List, [], ◌∷◌, Option, Some, None}
use Rattle.cap_bounds.specs.CapValue.{CapValue, value_base, value_top, value_perms}
use Rattle.steps.specs.declared.effect.Effect.{Effect}
use Rattle.steps.specs.declared.effect.Effect.TheVariants.{Return}
use Rattle.steps.specs.declared.event.Event.{Event}
use Rattle.steps.specs.declared.event.Event.TheVariants.{Step, Tick, Byte}
use Rattle.steps.specs.Event.{after, outcome}
use Rattle.steps.specs.Outcome.{is_trap}
use Rattle.steps.specs.State.{State}
use Rattle.steps.specs.declared.fetched.Fetched.{Fetched}
use Rattle.steps.specs.declared.fetched.Fetched.TheVariants.{Fault}
use Rattle.steps.specs.Step.{step_effect, step_fetched}
use Rattle.sim_run.specs.declared.notes.Level.{Level}

-- ---- the first that is open

-- the level at which code runs under this PCC
abbrev pub level_of : CapValue → Level
level_of pcc = record { base = value_base pcc; top = value_top pcc; perms = value_perms pcc }

abbrev pub is_same_level : Level → Level → Bool
is_same_level l m = (l.base == m.base) && ((l.top == m.top) && (l.perms == m.perms))

-- the first trap that is open: the number of its step, counted from 1, the state before it, and how many later ones are open too
pub record Open : Type 0 where
  pub number : ℕ
  pub before : State
  pub inner : ℕ

-- the level that a trap leaves: that of the step, where the trap's entry has another
abbrev pub level_left : State → Option Level
level_left s =
    if is_same_level (level_of s.scrs.mtcc) (level_of s.scrs.pcc) then None else Some (level_of s.scrs.pcc)

abbrev pub is_at : Option Level → State → Bool
is_at None s = false
is_at (Some level) s = is_same_level level (level_of s.scrs.pcc)

abbrev pub is_return : Effect CapValue → Bool
is_return (Return sealed) = true
is_return _ = false

-- one trap more
abbrev pub opened : ℕ → State → Option Open → Open
opened number s None = record { number = number; before = s; inner = 0 }
opened number s (Some first) = record first { inner = first.inner + 1 }

-- a return, from the last that is open
abbrev pub returned : Open → Option Open
returned first = if first.inner == 0 then None else Some (record first { inner = first.inner - 1 })

-- a step that is no trap
abbrev pub gone_on : State → Option Open → Option Open
gone_on s None = None
gone_on s (Some first) =
    if is_at (level_left first.before) s then None else if is_return (step_effect s) then returned first else Some first

-- ---- the last

-- a trap: the number of its step, the state before it, and how many later steps were traps of the fetch
pub record Trapped : Type 0 where
  pub number : ℕ
  pub before : State
  pub unfetched : ℕ

-- 1 where the fetch faults
abbrev pub unfetched_in : Fetched → ℕ
unfetched_in Fault = 1
unfetched_in _ = 0

-- one trap more
abbrev pub last_of : ℕ → State → Option Trapped → Trapped
last_of number s None = record { number = number; before = s; unfetched = 0 }
last_of number s (Some last) = record last { unfetched = last.unfetched + unfetched_in (step_fetched s) }

-- ---- over a run

-- the first trap that is open, and where the last step was a trap the last
pub record Traps : Type 0 where
  pub first : Option Open
  pub last : Option Trapped

abbrev pub no_traps : Traps
no_traps = record { first = None; last = None }

abbrev pub after_step : ℕ → State → Traps → Traps
after_step number s found =
    if is_trap (outcome Step s) then record { first = Some (opened number s found.first); last = Some (last_of number s found.last) }
    else record { first = gone_on s found.first; last = None }

-- over events, after so many steps that left these traps
abbrev pub traps_after : ℕ → Traps → List Event → State → Traps
traps_after done found [] s = found
traps_after done found (Step ∷ es) s = traps_after (done + 1) (after_step (done + 1) s found) es (after Step s)
traps_after done found (Tick ∷ es) s = traps_after done found es (after Tick s)
traps_after done found (Byte b ∷ es) s = traps_after done found es (after (Byte b) s)

-- the trap of a run that nothing handled before its end, with the last
abbrev pub trap_left : List Event → State → Traps
trap_left events s = traps_after 0 no_traps events s
