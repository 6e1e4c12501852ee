use Rattle.std.proofs.Common.{sym, subst}
use Rattle.policy.specs.Watch.{Applies}
use Rattle.every_run.proofs.step.known_step.Goals as goal

pub returns-clause-rules : goal.returns-clause-rules
returns-clause-rules g c = λ rule there about.
    c.in_ok-check_rules.ensures rule there (subst (Applies rule) (sym c.fetched_at.ensures) about)
