use Rattle.std.proofs.Common.{◌≡◌, true, false, ap, sym, ◌∙◌, subst}
use Rattle.std.specs.Prelude.{◌==◌, Some}
use Rattle.std.proofs.lemmas.Bool.{ne_eqb}
use Rattle.steps.specs.Step.{step_effect}
use Rattle.sim_run.specs.Unhandled.{is_at, is_return}
use Rattle.sim_run.specs.Watched.{IsOpen}
use Rattle.sim_run.proofs.LeftTraps.{open-returned}
use Rattle.sim_run.proofs.notes.gone_on.Goals as goal

pub returns-else-one-eq0-clause-told : goal.returns-else-one-eq0-clause-told
returns-else-one-eq0-clause-told g c = λ symbols words found told.
    let s = c.args.machine.now in
    let one = c.in-Some.one in
    let away : is_at one.level s ≡ false = sym c.is_at.ensures ∙ c.if-is_at.false in
    let returns : is_return (step_effect s) ≡ true =
    ap is_return (sym c.requires.planned.0) ∙ sym c.is_return.ensures ∙ c.if-not-is_return.false in
    open-returned symbols s one found words (subst (λ o. IsOpen symbols o words found) c.in-Some.is told) away returns
    (ne_eqb one.inner 0 c.if-one-eq0.false)
