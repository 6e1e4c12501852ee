-- Where a run ends that is to show why a step traps: before the first step that is such a trap.
use Rattle.std.specs.Prelude.{ℕ, ◌+◌, ◌==◌, ◌&&◌, ◌||◌, Bool, if◌then◌else◌, List, [], ◌∷◌, ◌++◌, is_err}
use Rattle.std.specs.Prelude.{Option, Some, None, is_some, codes}
use Rattle.base.specs.declared.cause.Cause.TheVariants as cause
use Rattle.base.specs.Fault.{number_of}
use Rattle.steps.specs.declared.event.Event.{Event}
use Rattle.steps.specs.declared.event.Event.TheVariants.{Step, Tick, Byte}
use Rattle.steps.specs.Event.{after, outcome}
use Rattle.steps.specs.Outcome.{is_trap}
use Rattle.steps.specs.State.{State}
use Rattle.steps.specs.Step.{fetch}
use Rattle.symbols.specs.Symbols.{Symbol}
use Rattle.explain.specs.StandingText.{standing_text}
use Rattle.explain.specs.WhyText.{why_text}
use Rattle.sim_run.specs.declared.stopping.StopAt.{StopAt}
use Rattle.sim_run.specs.declared.stopping.StopAt.TheVariants.{Unfetched, Violation, Double}
use Rattle.sim_run.specs.Unhandled.{Traps, after_step, no_traps}

-- a CHERI exception, or a fetch, a load or a store where nothing answers
abbrev pub is_violation : ℕ → Bool
is_violation mcause =
    mcause == number_of cause.Cheri
    || (mcause == number_of cause.FetchAccess || (mcause == number_of cause.LoadAccess || mcause == number_of cause.StoreAccess))

-- whether a trap that left this state is one to stop before: its entry can't be fetched, or it is a violation, or another was open
abbrev pub is_asked : StopAt → Bool → State → Bool
is_asked Unfetched is_open s = is_err (fetch s)
is_asked Violation is_open s = is_violation s.csrs.mcause
is_asked Double is_open s = is_open

-- whether the next step is such a trap, where a trap is open or none is
unfoldable pub is_stop : StopAt → Bool → State → Bool
is_stop at is_open s = is_trap (outcome Step s) && is_asked at is_open (after Step s)

-- the number of the first step among the events that is one, after so many others that left these traps
abbrev pub first_stop : StopAt → ℕ → Traps → List Event → State → Option ℕ
first_stop at done left [] s = None
first_stop at done left (Step ∷ es) s =
    if is_stop at (is_some left.first) s then Some (done + 1)
    else first_stop at (done + 1) (after_step (done + 1) s left) es (after Step s)
first_stop at done left (Tick ∷ es) s = first_stop at done left es (after Tick s)
first_stop at done left (Byte b ∷ es) s = first_stop at done left es (after (Byte b) s)

-- the events before that step, the byte that comes just before it among them
abbrev pub up_to_stop : StopAt → ℕ → Traps → List Event → State → List Event
up_to_stop at done left [] s = []
up_to_stop at done left (Step ∷ es) s =
    if is_stop at (is_some left.first) s then [] else Step ∷ up_to_stop at (done + 1) (after_step (done + 1) s left) es (after Step s)
up_to_stop at done left (Tick ∷ es) s = Tick ∷ up_to_stop at done left es (after Tick s)
up_to_stop at done left (Byte b ∷ es) s = Byte b ∷ up_to_stop at done left es (after (Byte b) s)

-- of a run that is to stop at no trap, all events
abbrev pub events_met : Option StopAt → List Event → State → List Event
events_met None events s = events
events_met (Some at) events s = up_to_stop at 0 no_traps events s

abbrev pub stop_met : Option StopAt → List Event → State → Option ℕ
stop_met None events s = None
stop_met (Some at) events s = first_stop at 0 no_traps events s

-- how many steps were done, where PCC is, and what the next step will do, and why; after an address stands its label
unfoldable pub stopped_lines : List Symbol → ℕ → State → List ℕ
stopped_lines symbols steps s =
    standing_text symbols steps s ++ codes "\n" ++ why_text symbols s
