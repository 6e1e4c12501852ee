use Rattle.commands.proofs.running.close_trace.Goals as goal

pub returns-in-Ok-clause-ok : goal.returns-in-Ok-clause-ok
returns-in-Ok-clause-ok g c = (_, c.in-Ok.ensures.ok, c.close.ensures)
