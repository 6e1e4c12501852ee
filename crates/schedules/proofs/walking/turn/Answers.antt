use Rattle.std.proofs.Common.{◌∙◌, ap, sym, subst}
use Rattle.schedules.specs.declared.pace.Pace.{Pace}
use Rattle.schedules.specs.Pace.{GoBy}
use Rattle.schedules.specs.Walk.{WentBy}
use Rattle.schedules.proofs.Steps.{goes_by_running, quiet_running, silent_before}
use Rattle.schedules.proofs.walking.turn.Goals as goal

pub returns-else-steps-eq0-clause-went : goal.returns-else-steps-eq0-clause-went
returns-else-steps-eq0-clause-went g c =
    let s = c.args.machine.now in
    let met = c.advance_short_of-steps in
    let n = met.result in
    subst (λ m. WentBy g.V.Watch.Saw g.V.Watch.Lost g.V.Watch.Barred c.tell.result.how m s met.new.self c.args.watch.now c.tell.new.watch)
    (sym c.tell.ensures.steps)
    (c.tell.ensures.told s met.ensures.state met.ensures.silent (silent_before n s met.ensures.silent)
    (subst (λ p. GoBy p n s) (sym c.in-Short.is ∙ ap (λ (p : Pace). p.speed) c.pace-pace.ensures) met.ensures.goes)
    (goes_by_running c.in-Short.stop n s met.ensures.goes))

pub returns-in-Any-clause-went : goal.returns-in-Any-clause-went
returns-in-Any-clause-went g c =
    let s = c.args.machine.now in
    let met = c.advance-met in
    let n = met.result.steps in
    subst (λ m. WentBy g.V.Watch.Saw g.V.Watch.Lost g.V.Watch.Barred c.tell-in-Any.result.how m s met.new.self c.args.watch.now
    c.tell-in-Any.new.watch)
    (sym c.tell-in-Any.ensures.steps)
    (c.tell-in-Any.ensures.told s met.ensures.state met.ensures.bytes met.ensures.silent
    (subst (λ p. GoBy p n s) (sym c.in-Any.is ∙ ap (λ (p : Pace). p.speed) c.pace-pace.ensures) tt)
    (quiet_running n s c.requires.running met.ensures.devices))
