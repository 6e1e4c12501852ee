-- Where a run ended, as an object: the values of its lines.
use Rattle.std.specs.Prelude.{ℕ, if◌then◌else◌, List, ◌++◌, Option, Some, None, codes}
use Rattle.json.specs.Token.{Token}
use Rattle.base.specs.declared.fault.Fault.{Fault}
use Rattle.cap_bounds.specs.CapValue.{value_address}
use Rattle.machine.specs.declared.end.End.{End}
use Rattle.machine.specs.declared.end.End.TheVariants.{Running, Halted}
use Rattle.steps.specs.declared.event.Event.TheVariants.{Step}
use Rattle.steps.specs.Event.{after}
use Rattle.steps.specs.State.{State, pc_of}
use Rattle.symbols.specs.Symbols.{Symbol}
use Rattle.explain.specs.StandingText.{standing_fields}
use Rattle.explain.specs.TrapText.{trap_text}
use Rattle.explain.specs.WhyObjects.{why_objects}
use Rattle.explain.specs.declared.standing.Standing.{Standing}
use Rattle.objects.specs.Items.{address_field, null_field, number_field, object_field, object_line, text_field}
use Rattle.objects.specs.Places.{place_field}
use Rattle.sim_run.specs.Ending.{is_trapped}
use Rattle.sim_run.specs.Unhandled.{Open, Trapped, Traps}
use Rattle.sim_run.specs.Verdict.{status_of}

-- the number of a step, where it is known
abbrev pub step_field : Option ℕ → List Token
step_field None = null_field (codes "step")
step_field (Some number) = number_field (codes "step") number

-- a trap: its step, and what it leaves in mcause and mtval, in words too
unfoldable pub fault_fields : Option ℕ → Fault → List Token
fault_fields number fault =
    step_field number ++ address_field (codes "mcause") fault.mcause ++ address_field (codes "mtval") fault.mtval
    ++ text_field (codes "words") (trap_text fault.mcause fault.mtval)

-- that, and where it was taken
unfoldable pub trap_field : List ℕ → List Symbol → Option ℕ → Fault → ℕ → List Token
trap_field name symbols number fault mepc =
    object_field name (fault_fields number fault ++ place_field (codes "mepc") symbols mepc)

-- a trap of the next step
abbrev pub taken_field : List ℕ → List Symbol → ℕ → State → List Token
taken_field name symbols number s =
    trap_field name symbols (Some number) (record { mcause = (after Step s).csrs.mcause; mtval = (after Step s).csrs.mtval }) (pc_of s)

-- the last that was taken, where one was
unfoldable pub last_trap_field : List Symbol → State → List Token
last_trap_field symbols s =
    if is_trapped s.csrs.mcause s.csrs.mtval
    then trap_field (codes "last_trap") symbols None (record { mcause = s.csrs.mcause; mtval = s.csrs.mtval })
    (value_address s.scrs.mepcc)
    else null_field (codes "last_trap")

abbrev pub no_trap_fields : List Symbol → State → List Token
no_trap_fields symbols s =
    null_field (codes "first_trap") ++ last_trap_field symbols s ++ number_field (codes "unfetched") 0

-- after a last step that was a trap, the first that is open, the last, and how many steps since that were traps of the fetch; else the
-- last, where one was taken
abbrev pub trap_fields : List Symbol → Option Open → Option Trapped → State → List Token
trap_fields symbols (Some first) (Some last) s =
    taken_field (codes "first_trap") symbols first.number first.before
    ++ taken_field (codes "last_trap") symbols last.number last.before ++ number_field (codes "unfetched") last.unfetched
trap_fields symbols first last s = no_trap_fields symbols s

-- the number that it halted with, where it halted
abbrev pub number_halted : End → Option ℕ
number_halted Running = None
number_halted (Halted number) = Some number

abbrev pub standing : End → ℕ → Standing
standing end steps = record { status = status_of end; halted = number_halted end; steps = steps }

-- how a run ended, how many steps were done, where PCC is, and the traps that matter
abbrev pub ending_object : List Symbol → End → ℕ → Traps → State → List ℕ
ending_object symbols end steps left s =
    object_line (standing_fields symbols (standing end steps) s ++ trap_fields symbols left.first left.last s)

-- of a run that stopped before a trap: how it ended, and why its next step traps, by the lines of that
unfoldable pub stopped_objects : List Symbol → End → ℕ → State → List ℕ
stopped_objects symbols end steps s = object_line (standing_fields symbols (standing end steps) s) ++ why_objects symbols s
