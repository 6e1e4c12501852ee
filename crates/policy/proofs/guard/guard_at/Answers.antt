use Rattle.std.proofs.Common.{◌<◌, length, sym, arith}
use Rattle.policy.proofs.Termed.{termed-at, termed-below}
use Rattle.policy.proofs.guard.guard_at.Goals as goal

pub returns-then-applied-clause-there : goal.returns-then-applied-clause-there
returns-then-applied-clause-there c =
    let below : c.loop-rule.rule-index < length c.args.rules.now = omega arith in (
      c.loop-rule.rule-index,
      termed-below c.args.rules.now c.loop-rule.rule-index below,
      sym (termed-at c.args.rules.now c.loop-rule.rule-index c.rule-item.result c.rule-item.is),
    )
