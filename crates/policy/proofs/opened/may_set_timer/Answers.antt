use Rattle.std.proofs.Common.{◌∙◌}
use Rattle.cap_rights.specs.Rights.{OpensStore}
use Rattle.devices.specs.Devices.{timer_compare}
use Rattle.reached.specs.Links.{values}
use Rattle.cap_rights.specs.Opens.{opens_store}
use Rattle.policy.proofs.Opening.{any_first}
use Rattle.cap_rights.specs.OpensLaws.{opens_store-means}
use Rattle.policy.proofs.opened.may_set_timer.Goals as goal

pub returns : goal.returns
returns g c =
    c.is_some.ensures
    ∙ any_first (λ v. OpensStore v timer_compare) (opens_store timer_compare) (λ v. opens_store-means v timer_compare)
    (values g.C.CapRep.value c.args.reach.now) c.may_set_timer.result c.may_set_timer.ensures.some c.may_set_timer.ensures.none
