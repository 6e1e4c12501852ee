use Rattle.std.proofs.Common.{◌∙◌}
use Rattle.cap_rights.specs.Rights.{OpensStore}
use Rattle.devices.specs.Devices.{transmit}
use Rattle.reached.specs.Links.{values}
use Rattle.cap_rights.specs.Opens.{opens_store}
use Rattle.policy.proofs.Opening.{any_first}
use Rattle.cap_rights.specs.OpensLaws.{opens_store-means}
use Rattle.policy.proofs.opened.may_send.Goals as goal

pub returns : goal.returns
returns g c =
    c.is_some.ensures
    ∙ any_first (λ v. OpensStore v transmit) (opens_store transmit) (λ v. opens_store-means v transmit)
    (values g.C.CapRep.value c.args.reach.now) c.may_send.result c.may_send.ensures.some c.may_send.ensures.none
