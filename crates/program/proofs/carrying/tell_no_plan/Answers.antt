use Rattle.std.proofs.Common.{arith, refl}
use Rattle.commands.specs.declared.fault.ProgramFault.TheVariants as program
use Rattle.program.proofs.carrying.tell_no_plan.Goals as goal

pub returns-in-Memory-clause-fault : goal.returns-in-Memory-clause-fault
returns-in-Memory-clause-fault g c three = rw c.in-Memory.is (program.Memory, refl, c.tell_fault.ensures.told)

pub returns-in-Help-clause-fault : goal.returns-in-Help-clause-fault
returns-in-Help-clause-fault g c three =
    let f = c.show.ensures.fault three (λ two. omega (arith, two)) in
    rw c.in-Help.is (f.0, f.1, f.2)
