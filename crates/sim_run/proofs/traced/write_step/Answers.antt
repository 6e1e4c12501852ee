use Rattle.sim_run.proofs.traced.write_step.Goals as goal

pub returns-else-form-clause-err : goal.returns-else-form-clause-err
returns-else-form-clause-err g c = rw c.if-form.false c.write_words.ensures.err
