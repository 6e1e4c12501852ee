use Rattle.std.proofs.Common.{arith, refl, subst}
use Rattle.commands.specs.FaultTexts.{fault_text}
use Rattle.program.specs.Telling.{Tells, done_text}
use Rattle.program.proofs.Carried.{at_most_one}
use Rattle.program.proofs.carrying.carry.Goals as goal

pub returns-in-Ok-clause-done : goal.returns-in-Ok-clause-done
returns-in-Ok-clause-done g c few =
    let done = c.in-Ok.done in
    (c.in-Ok.output, done_text done, refl, (rw c.tell_done.ensures.status c.in-Ok.ensures.ok), c.tell_done.ensures.told)

pub returns-in-Ok-clause-fault : goal.returns-in-Ok-clause-fault
returns-in-Ok-clause-fault g c three =
    absurd (omega (arith, three, c.tell_done.ensures.status, at_most_one c.in-Ok.done))

pub returns-in-Err-clause-fault : goal.returns-in-Err-clause-fault
returns-in-Err-clause-fault g c three =
    let sink = c.tell_fault.new.errors in
    let told = subst
    (λ quiet. Tells (g.E.Sink.failed c.args.errors.now) (g.E.Sink.failed sink) (g.E.Sink.held c.args.errors.now) (g.E.Sink.held sink)
    (fault_text quiet c.in-Err.fault)) c.is_quiet.ensures c.tell_fault.ensures.told in
    (c.in-Err.fault, c.in-Err.ensures.err, told)
