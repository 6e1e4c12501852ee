use Rattle.policy.proofs.Tests.{applies-it, same_test}
use Rattle.policy.specs.Terms.{terms}
use Rattle.policy.specs.Tests.{applies}
use Rattle.policy_audit.proofs.part.applies.Goals as goal

pub returns : goal.returns
returns c =
    same_test c.applies.result (applies (terms c.args.rule.now) c.args.at) c.applies.ensures (applies-it (terms c.args.rule.now) c.args.at)
