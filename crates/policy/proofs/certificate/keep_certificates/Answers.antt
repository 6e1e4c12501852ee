use Rattle.std.proofs.Common.{sym, subst}
use Rattle.steps.specs.Applying.{meant}
use Rattle.policy.specs.Terms.{terms_of}
use Rattle.policy.specs.Known.{KeepsThose}
use Rattle.policy.proofs.certificate.keep_certificates.Goals as goal

pub returns-in-StoreCapability : goal.returns-in-StoreCapability
returns-in-StoreCapability g c =
    subst (λ e. KeepsThose (terms_of c.args.rules.now) c.args.certified.now c.take_certificates.new.certified (meant g.C.CapRep.value e))
    (sym c.in-StoreCapability.is) c.take_certificates.ensures
