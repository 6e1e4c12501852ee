-- What may be asked of the code that runs from here on, how far an answer holds, and what the answer *no* says.
use Rattle.std.specs.Prelude.{◌≡◌, Bool, true, false, List, [], ◌∷◌, Option, slice_get, ⊤}
use Rattle.authority.specs.Authority.{SameScrs, SameCsrs}
use Rattle.authority.specs.Reachable.{IsReachable}
use Rattle.cap_bounds.specs.CapValue.{CapValue}
use Rattle.devices.specs.Devices.{mtimecmp}
use Rattle.doors.specs.Doors.{IsReachableThroughDoors}
use Rattle.doors.specs.Through.{AreReachableThroughDoors}
use Rattle.doors.specs.ThroughOrder.{members_through}
use Rattle.doors.specs.Turn.{ArePlainOrJumps, IsTurn}
use Rattle.doors.specs.Worlds.{IsTwinThroughDoors}
use Rattle.machine.specs.Run.{run_after, run_sent}
use Rattle.machine.specs.Stretch.{ArePlain, IsPlainRun, IsTwin}
use Rattle.reach.specs.declared.may.May.{May}
use Rattle.reach.specs.declared.may.May.TheVariants.{Store, Load, Execute, Learn, Keep, Send, Halt, System, Timer, Hold}
use Rattle.reach.specs.Differs.{KeepsBytes, KeepsNoLoan, DiffersWithin}
use Rattle.reach.specs.Reach.{AreReachable, members_in}
use Rattle.reached.specs.Order.{Found}
use Rattle.steps.specs.declared.event.Event.{Event}
use Rattle.steps.specs.State.{State}
use Rattle.cherisim_c.specs.declared.types.Question.{Question}

-- ---- what is asked

-- in the order of their numbers
abbrev pub questions : Question → List May
questions q =
    Store q.address q.count ∷ Load q.address q.count ∷ Execute q.address q.count ∷ Learn q.address q.count ∷ Keep q.address q.count ∷ Send
    ∷ Halt ∷ System ∷ Timer ∷ Hold q.otype ∷ []

abbrev pub may_of : Question → Option May
may_of q = slice_get (questions q) q.kind

-- ---- how far an answer holds: up to the next trap, unsealing or sealed jump; or through doors, up to the next trap or unsealing

-- the members that it is about
abbrev pub members_up_to : Bool → State → List Found
members_up_to false s = members_in s
members_up_to true s = members_through s

abbrev pub AreReachableUpTo : Bool → State → List CapValue → Type 0
AreReachableUpTo false s vs = AreReachable s vs
AreReachableUpTo true s vs = AreReachableThroughDoors s vs

abbrev pub IsReachableUpTo : Bool → State → CapValue → Type 0
IsReachableUpTo false s v = IsReachable s v
IsReachableUpTo true s v = IsReachableThroughDoors s v

-- the runs that it is about
abbrev pub IsRunUpTo : Bool → List Event → State → Type 0
IsRunUpTo false events s = IsPlainRun events s
IsRunUpTo true events s = IsTurn events s

-- another state goes on over the same events, sends the same, and ends in a state that agrees
abbrev pub GoesTheSameUpTo : Bool → List Event → State → State → Type 0
GoesTheSameUpTo false events s t = ArePlain events t × IsTwin events s t
GoesTheSameUpTo true events s t = ArePlainOrJumps events t × IsTwinThroughDoors events s t

-- ---- *no*

-- What no member lets code do isn't done over a run; to load or to execute some bytes, or to hold a type, is no event.
abbrev pub IsNotDone : Bool → May → List Event → State → Type 0
IsNotDone doors (Store address count) events s = KeepsBytes s.memory (run_after events s).memory address count
IsNotDone doors (Load address count) events s = ⊤
IsNotDone doors (Execute address count) events s = ⊤
IsNotDone doors (Learn address count) events s = (t : State) → DiffersWithin s t address count → GoesTheSameUpTo doors events s t
IsNotDone doors (Keep address count) events s =
    KeepsNoLoan (IsReachableUpTo doors s) s.memory (run_after events s).memory address count
IsNotDone doors Send events s = run_sent events s ≡ []
IsNotDone doors Halt events s = (run_after events s).devices.halted ≡ s.devices.halted
IsNotDone doors System events s = SameScrs s.scrs (run_after events s).scrs × SameCsrs s.csrs (run_after events s).csrs
IsNotDone doors Timer events s = mtimecmp (run_after events s).devices ≡ mtimecmp s.devices
IsNotDone doors (Hold otype) events s = ⊤

-- over any run up to there
abbrev pub IsNeverDone : Bool → May → State → Type 0
IsNeverDone doors may s = (events : List Event) → IsRunUpTo doors events s → IsNotDone doors may events s
