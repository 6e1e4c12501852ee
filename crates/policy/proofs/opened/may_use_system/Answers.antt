use Rattle.std.proofs.Common.{◌∙◌}
use Rattle.cap_rights.specs.Rights.{OpensSystem}
use Rattle.reached.specs.Links.{values}
use Rattle.cap_rights.specs.Opens.{opens_system}
use Rattle.policy.proofs.Opening.{any_first}
use Rattle.cap_rights.specs.OpensLaws.{opens_system-means}
use Rattle.policy.proofs.opened.may_use_system.Goals as goal

pub returns : goal.returns
returns g c =
    c.is_some.ensures
    ∙ any_first OpensSystem opens_system (λ v. opens_system-means v) (values g.C.CapRep.value c.args.reach.now) c.opens_system.result
    c.opens_system.ensures.some c.opens_system.ensures.none
