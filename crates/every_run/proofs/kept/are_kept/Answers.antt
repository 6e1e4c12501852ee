use Rattle.std.proofs.Common.{sym, ◌∙◌}
use Rattle.std.proofs.lemmas.Bool.{false≢true}
use Rattle.every_run.proofs.Checked.{known-outside}
use Rattle.every_run.proofs.Handlers.{not-true}
use Rattle.every_run.proofs.kept.are_kept.Goals as goal

pub returns-then-not-touches : goal.returns-then-not-touches
returns-then-not-touches g c = λ kept. λ b low high. record {
  outside = known-outside c.args.any.now c.args.address c.args.size
      (λ touched. false≢true (sym c.if-not-touches.true ∙ c.touches.ensures.1 touched)) b low high;
  unwritable = c.may_be_stored.ensures (not-true c.may_be_stored.result kept) b low high;
}
