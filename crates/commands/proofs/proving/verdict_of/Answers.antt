use Rattle.std.proofs.Common.{subst}
use Rattle.hart.specs.Opening.{opening}
use Rattle.policy.specs.Terms.{terms_of}
use Rattle.every_run.specs.Opens.{EveryRunKeepsTo, IsHolds}
use Rattle.commands.proofs.proving.verdict_of.Goals as goal

pub returns-clause-ok : goal.returns-clause-ok
returns-clause-ok c =
    let verdict = c.in_ok-verdict.verdict in
    let policy = c.args.rules.now.policy in
    subst (λ rules. IsHolds verdict → EveryRunKeepsTo (terms_of rules) policy.any.items (opening c.args.image.now)) c.deref-2.ensures.value
    (subst (λ any. IsHolds verdict → EveryRunKeepsTo (terms_of c.deref-2.result.now) any (opening c.args.image.now)) c.deref.ensures.value
    (subst (λ s. IsHolds verdict → EveryRunKeepsTo (terms_of c.deref-2.result.now) c.deref.result.now s) c.in_ok-hart.ensures.opening
    c.in_ok-verdict.ensures.holds))
