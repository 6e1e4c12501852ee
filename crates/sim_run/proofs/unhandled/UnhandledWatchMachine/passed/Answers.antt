use Rattle.std.proofs.Common.{◌+◌, refl, sym, ap, ◌∙◌}
use Rattle.std.proofs.Math.Nat.{min-eq_left}
use Rattle.sim_run.proofs.LeftTraps.{passed-told, steps_in-steps}
use Rattle.sim_run.proofs.WatchedSteps.{few_watched}
use Rattle.sim_run.proofs.unhandled.UnhandledWatchMachine.passed.Goals as goal

pub returns-clause-ok : goal.returns-clause-ok
returns-clause-ok g c = λ s there sends silent goes.
    let w = c.args.self.now in
    let n = c.args.steps in
    let known = few_watched w.notes.first w.number n s c.requires.few goes in (
      refl,
      c.saturating_add-self.ensures ∙ min-eq_left known.1 ∙ ap (λ k. w.number + k) (sym (steps_in-steps n)),
      (λ left told. passed-told w.symbols.now w.notes w.number n s left known.0 c.requires.some known.2 told),
    )
