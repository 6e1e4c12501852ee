use Rattle.policy.specs.Terms.{terms}
use Rattle.policy.specs.Tests.{is_about}
use Rattle.policy.proofs.Tests.{about-it, same_test}
use Rattle.policy.proofs.in_force.is_about.Goals as goal

pub returns : goal.returns
returns c =
    let rule = terms c.args.rule.now in
    same_test c.is_about.result (is_about rule c.args.pc) c.is_about.ensures (about-it rule c.args.pc)
