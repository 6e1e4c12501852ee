use Rattle.steps.specs.declared.event.Event.TheVariants.{Step}
use Rattle.policy.specs.Known.{rules_of}
use Rattle.policy.proofs.Learning.{keeps-to-each}
use Rattle.policy_runs.proofs.keeper.KeeperWatchMachine.before.Goals as goal

pub returns-in-Ok-clause-ok : goal.returns-in-Ok-clause-ok
returns-in-Ok-clause-ok g c = λ _. (
  c.note.ensures.said,
  λ knows.
      let hold = rw (c.in-Ok-None.is, c.in-Ok-None.field-0-is) at (c.refusal.ensures.holds knows) in
      record {
        keep = (keeps-to-each (rules_of c.args.self.now.watcher) Step c.args.machine.now knows.state hold, tt);
        force = c.in-Ok.ensures.rules;
        truth = c.in-Ok.ensures.remembers knows.remembers hold;
      },
)
