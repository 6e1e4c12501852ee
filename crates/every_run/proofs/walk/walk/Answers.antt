use Rattle.std.proofs.Common.{subst}
use Rattle.policy.specs.Terms.{terms_of}
use Rattle.every_run.specs.Known.{IsOutside}
use Rattle.every_run.specs.Lasting.{AlwaysHoldFrom}
use Rattle.every_run.proofs.Walking.{before-step}
use Rattle.every_run.proofs.walk.walk.Goals as goal

pub loop-steps-preserved : goal.loop-steps-preserved
loop-steps-preserved g c = λ next.
    let Known = IsOutside c.args.any.now in
    let rules = terms_of c.args.rules.now in
    c.loop-steps.invariant
    (before-step Known rules c.loop-steps.hart c.pc_of.ensures.state c.in_ok-planned.ensures.known c.in_ok-planned.ensures.rules
    (subst (AlwaysHoldFrom Known rules) c.apply.ensures.state next))
