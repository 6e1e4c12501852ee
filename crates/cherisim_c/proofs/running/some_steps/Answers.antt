use Rattle.std.proofs.Common.{replicate, subst}
use Rattle.steps.specs.declared.event.Event.TheVariants.{Step}
use Rattle.steps.specs.Steps.{GoesBy}
use Rattle.machine.specs.Run.{run_after}
use Rattle.cherisim_c.proofs.Runs.{goes-by, silent-before}
use Rattle.cherisim_c.proofs.running.some_steps.Goals as goal

pub returns-else-steps-eq0-clause-walks : goal.returns-else-steps-eq0-clause-walks
returns-else-steps-eq0-clause-walks c =
    let s = c.args.machine.now in
    record {
      goes = λ j some few. goes-by c.args.asked.now (run_after (replicate j Step) s)
          (subst (λ at. GoesBy at (run_after (replicate j Step) s)) c.stop_address.ensures (c.advance_short_of-steps.ensures.goes j few));
      silent = silent-before c.advance_short_of-steps.result s c.advance_short_of-steps.ensures.silent;
    }
