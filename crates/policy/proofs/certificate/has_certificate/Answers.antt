use Rattle.std.proofs.Common.{sym, subst}
use Rattle.steps.specs.State.{HoldsCapabilities}
use Rattle.policy.specs.Terms.{terms}
use Rattle.policy.specs.Known.{IsCertified}
use Rattle.policy.proofs.certificate.has_certificate.Goals as goal

pub returns-else-certified : goal.returns-else-certified
returns-else-certified g c = λ _ yes. subst (IsCertified (terms c.args.rule.now)) c.memory.ensures.value (c.certifies.ensures yes)

pub certifies-requires : goal.certifies-requires
certifies-requires g c = subst HoldsCapabilities (sym c.memory.ensures.value) c.memory.ensures.well_formed
