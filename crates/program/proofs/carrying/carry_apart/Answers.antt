use Rattle.program.proofs.carrying.carry_apart.Goals as goal

pub returns-clause-fault : goal.returns-clause-fault
returns-clause-fault g c three =
    let f = c.carry.ensures.fault three in
    ((rw c.if-overwrites.false at c.overwrites.ensures), f.0, f.1, f.2)
