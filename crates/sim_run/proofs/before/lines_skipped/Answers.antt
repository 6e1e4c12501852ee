use Rattle.std.proofs.Common.{arith}
use Rattle.sim_run.proofs.FirstSteps.{last_kept}
use Rattle.sim_run.proofs.before.lines_skipped.Goals as goal

pub returns : goal.returns
returns c = λ says events s count. last_kept says c.args.from c.args.last _ c.args.steps events s (omega arith) count
