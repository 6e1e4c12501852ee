use Rattle.policy.specs.Terms.{terms}
use Rattle.policy.proofs.Certificates.{holds-certified}
use Rattle.policy.proofs.certificate.is_certain.Goals as goal

pub returns-then-start_keeps-clause-holds : goal.returns-then-start_keeps-clause-holds
returns-then-start_keeps-clause-holds g c = λ were yes.
    holds-certified (terms c.args.rule.now) c.args.hart.now c.is_state.ensures.memory (c.has_certificate.ensures were yes)
    (c.start_keeps.ensures.roots c.if-start_keeps.true) (c.start_keeps.ensures.specials c.if-start_keeps.true)
