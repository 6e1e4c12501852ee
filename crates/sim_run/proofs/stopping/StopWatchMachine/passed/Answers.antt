use Rattle.std.proofs.Common.{refl}
use Rattle.sim_run.proofs.Stops.{plain_searched}
use Rattle.sim_run.proofs.stopping.StopWatchMachine.passed.Goals as goal

pub returns-clause-ok : goal.returns-clause-ok
returns-clause-ok g c = λ s there sends silent goes.
    (refl, plain_searched c.args.self.now.at c.args.self.now.only c.args._steps s c.requires.some goes)
