-- Runs: a machine meets a list of events, one after the other.
use Rattle.std.specs.Prelude.{ℕ, List, [], ◌∷◌, ◌++◌, Option, Some, None, option_to_list}
use Rattle.steps.specs.declared.event.Event.{Event}
use Rattle.steps.specs.State.{State}
use Rattle.steps.specs.Event.{after, sent}
use Rattle.machine.specs.declared.end.End.{End}
use Rattle.machine.specs.declared.end.End.TheVariants.{Running, Halted}

-- the state after the events
abbrev pub run_after : List Event → State → State
run_after [] s = s
run_after (e ∷ es) s = run_after es (after e s)

-- the bytes that are sent, in order
abbrev pub run_sent : List Event → State → List ℕ
run_sent [] s = []
run_sent (e ∷ es) s = option_to_list (sent e s) ++ run_sent es (after e s)

-- whether a state is halted, and with which number
abbrev pub ended : Option ℕ → End
ended None = Running
ended (Some number) = Halted number

abbrev pub end_of : State → End
end_of s = ended s.devices.halted
