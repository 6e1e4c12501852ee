use Rattle.std.proofs.Common.{sym, ◌∙◌}
use Rattle.policy.specs.Terms.{terms_of}
use Rattle.every_run.proofs.Checked.{ok-then, none-there-some}
use Rattle.every_run.proofs.Walking.{every-run}
use Rattle.every_run.proofs.proving.prove.Goals as goal

pub returns-in-Ok : goal.returns-in-Ok
returns-in-Ok g c = record {
  holds = ok-then _ _ c.entered.result (λ v promised holds.
      every-run c.args.any.now (terms_of c.args.rules.now) c.args.hart.now c.in_default.ensures
      (sym c.halted.ensures.value ∙ none-there-some c.halted.result (sym c.is_some.ensures ∙ c.if-is_some.false))
      (c.in-Ok.ensures (promised holds))) c.entered.ensures;
}
