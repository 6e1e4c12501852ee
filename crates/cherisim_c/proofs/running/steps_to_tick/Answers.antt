use Rattle.std.proofs.Common.{◌-◌, ◌%◌, ◌<◌, subst}
use Rattle.cherisim_c.proofs.Runs.{no-tick-yet}
use Rattle.cherisim_c.proofs.running.steps_to_tick.Goals as goal

pub returns-then-asked-ne0-clause-alone : goal.returns-then-asked-ne0-clause-alone
returns-then-asked-ne0-clause-alone c = λ j some few.
    let a = c.args.asked.now in
    no-tick-yet a c.args.before j some (subst (λ n. j < a.tick - c.args.before % n) c.from.ensures few)
