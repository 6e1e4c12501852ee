use Rattle.schedules.proofs.Paces.{neither}
use Rattle.schedules.proofs.both.BothWatchMachine.before.Goals as goal

pub returns-in-Err-clause-err : goal.returns-in-Err-clause-err
returns-in-Err-clause-err g c = λ off.
    (c.in-Err.ensures.err (neither _ _ off).0, g.met.B.Watch.starts c.args.machine.now c.args.self.now.second)

pub returns-in-Err-before-clause-err : goal.returns-in-Err-before-clause-err
returns-in-Err-before-clause-err g c = λ off. (
  c.in-Err-before.ensures.err (neither _ _ off).1,
  record {
    there = c.args.self.now.first;
    saw = g.met.A.Watch.starts c.args.machine.now c.args.self.now.first;
    asked = c.in-Ok.ensures.ok (neither _ _ off).0;
  },
)
