use Rattle.std.proofs.Common.{◌+◌, refl, sym, ap, ◌∙◌, replicate, arith}
use Rattle.std.proofs.Math.Nat.{min-eq_left}
use Rattle.steps.specs.declared.event.Event.TheVariants.{Step}
use Rattle.sim_run.specs.LineLaws.{wrote_skipped}
use Rattle.sim_run.specs.Trace.{says_of}
use Rattle.sim_run.proofs.LeftTraps.{steps_in-steps}
use Rattle.sim_run.proofs.WatchedSteps.{few_skipped}
use Rattle.sim_run.proofs.traced.LinesWatchMachine.passed.Goals as goal

pub returns-clause-ok : goal.returns-clause-ok
returns-clause-ok g c = λ s there sends silent goes.
    let w = c.args.self.now in
    let n = c.args.steps in
    let count = steps_in-steps n in
    let few = few_skipped w.form.skipped w.number n s c.requires.few goes in
    let most = c.requires.ready.1 in
    let now = c.saturating_add-self.ensures ∙ min-eq_left (omega (arith, few, most, c.requires.some)) in (
      refl,
      refl,
      wrote_skipped (says_of w.form) w.form.skipped w.number (replicate n Step) s (g.T.Sink.held w.trace.now)
          (g.T.Sink.failed w.trace.now) c.saturating_add-self.result (rw count few) (now ∙ ap (λ k. w.number + k) (sym count)),
    )
