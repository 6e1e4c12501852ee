use Rattle.policy.proofs.Tests.{is-break, same_test}
use Rattle.policy.specs.Terms.{terms}
use Rattle.policy.specs.Tests.{breaks}
use Rattle.policy_audit.proofs.part.breaks.Goals as goal

pub returns : goal.returns
returns g c =
    let value = g.C.CapRep.value c.args.cap in
    let rule = terms c.args.rule.now in
    same_test c.breaks.result (breaks rule c.args.ban value) c.breaks.ensures (is-break value rule c.args.ban)
