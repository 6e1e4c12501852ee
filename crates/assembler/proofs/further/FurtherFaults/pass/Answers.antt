use Rattle.assembler.proofs.further.FurtherFaults.pass.Goals as goal

pub returns-in-Some-clause-told : goal.returns-in-Some-clause-told
returns-in-Some-clause-told c = rw c.in-Some.is (rw c.code_of-code.ensures at c.take.ensures.told)
