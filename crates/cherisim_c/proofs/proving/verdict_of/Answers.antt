use Rattle.std.proofs.Common.{IfOk, ◌∙◌, subst}
use Rattle.policy.specs.Terms.{terms_of}
use Rattle.every_run.specs.Opens.{EveryRunKeepsTo, IsHolds}
use Rattle.cherisim_c.proofs.proving.verdict_of.Goals as goal

pub returns : goal.returns
returns c =
    let rules = c.deref-2.result.now in
    let policy = c.args.policy.now in
    subst (λ rs. IfOk c.prove.result (λ v. IsHolds v → EveryRunKeepsTo (terms_of rs) policy.any.items c.args.machine.now))
    c.deref-2.ensures.value
    (subst (λ any. IfOk c.prove.result (λ v. IsHolds v → EveryRunKeepsTo (terms_of rules) any c.args.machine.now)) c.deref.ensures.value
    (subst (λ s. IfOk c.prove.result (λ v. IsHolds v → EveryRunKeepsTo (terms_of rules) c.deref.result.now s))
    (c.in_ok-hart.ensures ∙ c.hart.ensures.value) c.prove.ensures.holds))
