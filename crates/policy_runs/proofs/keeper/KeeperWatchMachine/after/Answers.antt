use Rattle.std.proofs.Common.{◌∙◌}
use Rattle.policy_runs.proofs.keeper.KeeperWatchMachine.after.Goals as goal

pub returns-clause-ok : goal.returns-clause-ok
returns-clause-ok g c = λ s v asked did _. (
  c.look.ensures.said ∙ asked.0,
  λ knows.
      let kept = asked.1 knows in
      record {
        keep = kept.keep;
        force = c.look.ensures.rules ∙ kept.force;
        truth = (rw did at c.look.ensures.knows) kept.truth;
      },
)
