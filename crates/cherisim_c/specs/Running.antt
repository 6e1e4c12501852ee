-- Runs for C: the events that a run meets, and why it stops.
use Rattle.std.specs.Prelude.{ℕ, zero, suc, ◌+◌, ◌-◌, ◌==◌, ◌&&◌, not, Bool, true, false, if◌then◌else◌, List, [], ◌∷◌, ◌++◌, length}
use Rattle.std.specs.Prelude.{Option, None, Some, is_some, option_to_list}
use Rattle.steps.specs.declared.event.Event.{Event}
use Rattle.steps.specs.declared.event.Event.TheVariants.{Step, Tick}
use Rattle.steps.specs.declared.ends.Why.{Why}
use Rattle.steps.specs.declared.ends.Why.TheVariants.{Trap, Unseal, SealedJump}
use Rattle.steps.specs.Ends.{why_of}
use Rattle.steps.specs.Event.{after, sent, outcome}
use Rattle.steps.specs.State.{State, pc_of}
use Rattle.explain.specs.TraceLine.{trace_line}
use Rattle.machine.specs.Run.{run_after}
use Rattle.schedules.specs.Schedule.{ticks_after}
use Rattle.symbols.specs.Symbols.{Symbol}
use Rattle.cherisim_c.specs.declared.types.RunAsked.{RunAsked}
use Rattle.cherisim_c.specs.declared.types.Halted.{Halted}
use Rattle.cherisim_c.specs.declared.types.Sent.{Sent}

-- why the next step would end a stretch, as a number; through doors a jump through a seal does not
abbrev pub end_code : Bool → Option Why → Option ℕ
end_code doors None = None
end_code doors (Some Trap) = Some 4
end_code doors (Some Unseal) = Some 5
end_code doors (Some SealedJump) = if doors then None else Some 6

-- the same with 0 where it would not
abbrev pub code_or_zero : Option ℕ → ℕ
code_or_zero None = 0
code_or_zero (Some n) = n

-- the address where a run stops
abbrev pub is_at_stop : RunAsked → State → Bool
is_at_stop a s = a.at_address && (pc_of s == a.address)

-- Why a run goes no further, where so many steps are left and the buffer has room for so many bytes: all steps were done (0), the
-- machine is halted (1), the buffer is full (2), PCC has the address (3), or the next step traps (4), unseals (5) or, unless doors are
-- gone through, jumps through a seal (6).
unfoldable pub stop_at : RunAsked → ℕ → ℕ → State → Option ℕ
stop_at a left room s =
    if left == 0 then Some 0 else
    (if is_some s.devices.halted then Some 1 else
    (if room == 0 then Some 2 else
    (if is_at_stop a s then Some 3 else
    (if a.at_end then end_code a.doors (why_of (outcome Step s)) else None))))

-- the tick after the step of this number, which left this state; none follows a step that halts the machine
abbrev pub tick_after : RunAsked → ℕ → State → List Event
tick_after a number s = if ticks_after a.tick number && not (is_some s.devices.halted) then Tick ∷ [] else []

-- the events of a run from a state on: the number of the last step before them, and how many steps and bytes it has left
abbrev pub run_from : RunAsked → ℕ → ℕ → ℕ → State → List Event
run_from a before zero room s = []
run_from a before (suc left) room s =
    if is_some (stop_at a (suc left) room s) then [] else
    (Step ∷ (tick_after a (before + 1) (after Step s)
    ++ run_from a (before + 1) left (room - length (option_to_list (sent Step s)))
    (run_after (tick_after a (before + 1) (after Step s)) (after Step s))))

-- all events of a run into a buffer of so many bytes
abbrev pub run_events : RunAsked → ℕ → State → List Event
run_events a room s = run_from a a.before a.steps room s

-- the byte that a step sent, if it sent one, as C gets it; else 0
abbrev pub sent_of : Option ℕ → Sent
sent_of None = record { sends = false; byte = 0 }
sent_of (Some byte) = record { sends = true; byte = byte }

-- whether a machine is halted, as C gets it
abbrev pub halted_of : Option ℕ → Halted
halted_of None = record { halted = false; number = 0 }
halted_of (Some number) = record { halted = true; number = number }

-- the line of a trace for the next step, with its number, where there are these labels; a halted machine has none
abbrev pub step_line : List Symbol → ℕ → State → List ℕ
step_line symbols number s = if is_some s.devices.halted then [] else trace_line symbols number s
