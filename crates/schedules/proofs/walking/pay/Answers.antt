use Rattle.std.proofs.Common.{sym, subst, ap}
use Rattle.steps.specs.declared.event.Event.TheVariants.{Tick}
use Rattle.schedules.specs.declared.pace.How.TheVariants.{Done}
use Rattle.schedules.specs.Walk.{ticking, Met}
use Rattle.schedules.proofs.Pieces.{one_met}
use Rattle.schedules.proofs.walking.pay.Goals as goal

pub returns-then-due-clause-met : goal.returns-then-due-clause-met
returns-then-due-clause-met g c =
    let s = c.args.machine.now in
    subst (λ es. Met g.V.Watch.Saw g.V.Watch.Lost g.V.Watch.Barred Done es s c.event.new.self c.args.watch.now c.came.new.self)
    (sym (ap ticking c.if-due.true))
    (record { state = c.event.ensures.state; all = one_met Tick s; told = c.came.ensures.tick s c.event.ensures.state })
