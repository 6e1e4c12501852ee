use Rattle.std.proofs.Common.{sym, ap, ◌∙◌, subst}
use Rattle.std.proofs.lemmas.Bool.{false≢true}
use Rattle.every_run.specs.Known.{IsOutside}
use Rattle.every_run.specs.Stands.{AreKnown}
use Rattle.every_run.proofs.Checked.{known-outside, none-there-some}
use Rattle.every_run.proofs.step.check_state.Goals as goal

pub returns : goal.returns
returns g c = record {
  running = sym c.halted.ensures.value ∙ none-there-some c.halted.result (sym c.is_some.ensures ∙ c.if-is_some.false);
  uninterrupted = sym (ap (λ x. x.mstatus_mie) c.csrs.ensures.value) ∙ c.if-csrs.false;
  word = subst (λ pc. AreKnown (IsOutside c.args.any.now) pc 4) c.pc_of-pc.ensures.value
      (known-outside c.args.any.now c.pc_of-pc.result 4 (λ touched. false≢true (sym c.if-touches.false ∙ c.touches.ensures.1 touched)));
}
