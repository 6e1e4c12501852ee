use Rattle.std.proofs.Common.{ap, sym, ◌∙◌}
use Rattle.sim_run.specs.Stopping.{is_violation}
use Rattle.sim_run.proofs.LeftTraps.{cause-left}
use Rattle.sim_run.proofs.stopping.is_asked.Goals as goal

pub returns-in-Violation : goal.returns-in-Violation
returns-in-Violation g c =
    rw (c.in-Violation.is)
    (c.is_violation.ensures ∙ ap is_violation (sym (cause-left c.args.machine.now c.requires.running c.args.fault c.requires.traps)))
