use Rattle.std.proofs.Common.{refl}
use Rattle.sim_run.proofs.Stops.{other_passed}
use Rattle.sim_run.proofs.stopping.StopWatchMachine.before.Goals as goal

pub returns-in_default-clause-ok : goal.returns-in_default-clause-ok
returns-in_default-clause-ok g c = λ passes.
    (refl, other_passed c.args.self.now.at c.args.self.now.only c.args.machine.now c.in_default.not-Double passes)
