use Rattle.std.proofs.Common.{inr, refl, subst, sym, ap, arith}
use Rattle.std.proofs.lemmas.Result.{IfErr-weaker, IfOk-weaker}
use Rattle.std.specs.Prelude.{◌≤◌}
use Rattle.past.proofs.anchor.nearest.Goals as goal

pub returns-clause-from : goal.returns-clause-from
returns-clause-from g c = IfOk-weaker c.new.result _ _ (λ from first. inr (refl, first)) c.new.ensures.ok

pub returns-clause-few : goal.returns-clause-few
returns-clause-few g c =
    IfOk-weaker c.new.result _ _ (λ from first. subst (λ k. k ≤ c.args.n) (sym (ap (λ a. a.events) first)) (omega arith)) c.new.ensures.ok

pub returns-clause-fault : goal.returns-clause-fault
returns-clause-fault g c = IfErr-weaker c.new.result _ _ (λ fault is. (is, refl)) c.new.ensures.err
