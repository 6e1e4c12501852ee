use Rattle.std.proofs.Common.{subst}
use Rattle.std.specs.List.{Contains}
use Rattle.policy.specs.Terms.{terms_of}
use Rattle.reached.specs.Links.{values}
use Rattle.every_run.specs.Handled.{IsHandled, IsKept}
use Rattle.every_run.proofs.handler.walk_trap.Goals as goal

pub loop-steps-preserved : goal.loop-steps-preserved
loop-steps-preserved g c = λ o same rest.
    let vs = values g.C.CapRep.value c.args.members.now in
    let after = rw c.in-Some.is at c.in_ok-next.ensures o same in
    c.loop-steps.invariant o same
    (after (subst (IsHandled (terms_of c.args.rules.now) (Contains vs) (IsKept vs c.args.any.now) o c.in-Some.later) c.event.ensures.state
    rest))

pub returns-in-None : goal.returns-in-None
returns-in-None g c = λ o same. c.loop-steps.invariant o same (rw c.in-None.is at c.in_ok-next.ensures o same)
