use Rattle.std.proofs.Common.{◌≡◌}
use Rattle.std.specs.List.{Contains}
use Rattle.policy.specs.Terms.{terms_of}
use Rattle.reached.specs.Links.{values}
use Rattle.steps.specs.State.{State}
use Rattle.every_run.specs.Handled.{IsHandled, IsKept, entry_marks}
use Rattle.every_run.proofs.handler.walk_trap.Given as goal

abbrev pub invariant-loop-steps : goal.invariant-loop-steps
invariant-loop-steps g l =
    let vs = values g.C.CapRep.value l.members in
    (o : State) → g.C.CapRep.value l.kept ≡ o.scrs.mscratchc
    → IsHandled (terms_of l.rules) (Contains vs) (IsKept vs l.any) o l.marks l.hart
    → IsHandled (terms_of l.rules) (Contains vs) (IsKept vs l.any) o entry_marks l.fn.hart
