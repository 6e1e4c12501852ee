use Rattle.std.proofs.Common.{refl}
use Rattle.std.specs.Prelude.{Err, Option, ℕ}
use Rattle.schedules.proofs.Fell.{fell}
use Rattle.schedules.proofs.output.OutputWatchMachine.passed.Goals as goal

pub returns-in-Err-clause-err : goal.returns-in-Err-clause-err
returns-in-Err-clause-err g c = λ s there all silent go.
    fell {T = Option ℕ} (Err c.in-Err.fault) c.args.steps s c.args.sent _ _ _ _ _ refl c.requires.some all silent c.in-Err.ensures.unwritten
    c.in-Err.ensures.err c.in-Err.ensures.count
