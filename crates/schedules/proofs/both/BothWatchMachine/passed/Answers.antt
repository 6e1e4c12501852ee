use Rattle.std.proofs.Common.{inl, refl, replicate, []}
use Rattle.steps.specs.declared.event.Event.TheVariants.{Step}
use Rattle.schedules.proofs.Paces.{speeds}
use Rattle.schedules.proofs.both.BothWatchMachine.passed.Goals as goal

pub returns-in-Err-clause-err : goal.returns-in-Err-clause-err
returns-in-Err-clause-err g c = λ s there sends silent goes.
    let each = speeds (g.A.Watch.pace_of c.args.self.now.first).speed (g.B.Watch.pace_of c.args.self.now.second).speed
    c.args.steps s goes in (
      c.in-Err.ensures.err s there sends silent each.0,
      record {
        done = [];
        more = replicate c.args.steps Step;
        order = refl;
        saw = inl (g.met.B.Watch.starts s c.args.self.now.second);
      },
    )

pub returns-in-Err-passed-clause-err : goal.returns-in-Err-passed-clause-err
returns-in-Err-passed-clause-err g c = λ s there sends silent goes.
    let each = speeds (g.A.Watch.pace_of c.args.self.now.first).speed (g.B.Watch.pace_of c.args.self.now.second).speed
    c.args.steps s goes in
    (c.in-Err-passed.ensures.err s there sends silent each.1, c.in-Ok.ensures.ok s there sends silent each.0)

pub returns-in-Ok-passed-clause-ok : goal.returns-in-Ok-passed-clause-ok
returns-in-Ok-passed-clause-ok g c = λ s there sends silent goes.
    let each = speeds (g.A.Watch.pace_of c.args.self.now.first).speed (g.B.Watch.pace_of c.args.self.now.second).speed
    c.args.steps s goes in
    (c.in-Ok.ensures.ok s there sends silent each.0, c.in-Ok-passed.ensures.ok s there sends silent each.1)
