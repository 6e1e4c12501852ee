use Rattle.std.proofs.Common.{refl}
use Rattle.sim_run.proofs.WatchedSteps.{not_last, on_any, on_missed, on_written}
use Rattle.sim_run.proofs.traced.LinesWatchMachine.before.Goals as goal

pub returns-clause-ok : goal.returns-clause-ok
returns-clause-ok g c = λ on.
    let few = not_last c.args.self.now.number c.requires.ready.2 on in
    on_written c.write_line.result _ _ c.write_line.ensures.count (c.write_line.ensures.ok few)
    (λ wrote same. (refl, refl, refl, few, wrote, same))

pub returns-clause-err : goal.returns-clause-err
returns-clause-err g c = λ on.
    let few = not_last c.args.self.now.number c.requires.ready.2 on in
    on_missed c.write_line.result _ _ c.write_line.ensures.count (c.write_line.ensures.err few)
    (λ fault missed more. (refl, record { lines = missed; failed = more }))

pub returns-clause-ready : goal.returns-clause-ready
returns-clause-ready g c =
    on_written c.write_line.result _ _ c.write_line.ensures.count (on_any c.write_line.result)
    (λ _ same. (rw same c.requires.ready.0, c.requires.ready.1, c.requires.ready.2))
