-- The calls and returns of a run, in order: a line for each, after two spaces for each call that is open around it, of 64 at most.
-- What an event does is seen by the calls that are open before and after it (specs/Calls): by a call they are more, by a return fewer.
use Rattle.std.specs.Prelude.{ℕ, zero, suc, nat_lt, min, if◌then◌else◌, List, [], ◌∷◌, ◌++◌, length, codes, decimal}
use Rattle.steps.specs.Event.{after}
use Rattle.steps.specs.State.{State, pc_of}
use Rattle.steps.specs.declared.event.Event.{Event}
use Rattle.symbols.specs.Labels.{labelled}
use Rattle.symbols.specs.Symbols.{Symbol}
use Rattle.origin_texts.specs.Calls.{call_line, calls_at}
use Rattle.origin_texts.specs.declared.calls.Call.{Call}

abbrev pub indent : ℕ → List ℕ
indent zero = []
indent (suc depth) = codes "  " ++ indent depth

-- calls that never return, as of a kernel that switches threads, are not to fill the lines
abbrev pub level : ℕ → ℕ
level depth = min depth 64

-- the newest call, around which the others are open
abbrev pub newest_line : List Symbol → List Call → List ℕ
newest_line symbols [] = []
newest_line symbols (call ∷ calls) = indent (level (length calls)) ++ call_line symbols call

-- a return in the event of a number, and where it goes
unfoldable pub return_line : List Symbol → ℕ → ℕ → ℕ → List ℕ
return_line symbols number from to =
    decimal number ++ codes " " ++ labelled symbols from ++ codes " returned to " ++ labelled symbols to ++ codes "\n"

-- what is told of an event between two addresses of PCC: before it so many calls are open, and after it these
abbrev pub event_line : List Symbol → ℕ → ℕ → ℕ → ℕ → List Call → List ℕ
event_line symbols number from to depth calls =
    if nat_lt depth (length calls) then newest_line symbols calls
    else if nat_lt (length calls) depth then indent (level (length calls)) ++ return_line symbols number from to
    else []

-- the lines of events, of which some came before, and left these calls open
abbrev pub call_trace : List Symbol → ℕ → List Call → List Event → State → List ℕ
call_trace symbols before calls [] s = []
call_trace symbols before calls (e ∷ es) s =
    event_line symbols (suc before) (pc_of s) (pc_of (after e s)) (length calls) (calls_at e (suc before) s calls)
    ++ call_trace symbols (suc before) (calls_at e (suc before) s calls) es (after e s)
