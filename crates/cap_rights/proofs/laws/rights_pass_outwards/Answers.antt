use Rattle.cap_rights.specs.RightsLaws.{IsInRightsOf-refl, IsInRightsOf-trans, OpensSystem-outer, OpensGranule-outer}
use Rattle.cap_rights.specs.RightsLaws.{OpensStore-outer, OpensByte-outer, OpensType-outer}
use Rattle.cap_rights.specs.RightsLaws.{permits-in_rights, OpensCapabilityStore-outer, OpensKeeping-outer}
use Rattle.cap_rights.proofs.laws.rights_pass_outwards.Goals as goal

pub returns-clause-itself : goal.returns-clause-itself
returns-clause-itself c = IsInRightsOf-refl

pub returns-clause-through : goal.returns-clause-through
returns-clause-through c = IsInRightsOf-trans

pub returns-clause-system : goal.returns-clause-system
returns-clause-system c = OpensSystem-outer

pub returns-clause-granule : goal.returns-clause-granule
returns-clause-granule c = OpensGranule-outer

pub returns-clause-store : goal.returns-clause-store
returns-clause-store c = OpensStore-outer

pub returns-clause-permission : goal.returns-clause-permission
returns-clause-permission c = permits-in_rights

pub returns-clause-capability_store : goal.returns-clause-capability_store
returns-clause-capability_store c = OpensCapabilityStore-outer

pub returns-clause-keeping : goal.returns-clause-keeping
returns-clause-keeping c = OpensKeeping-outer

pub returns-clause-byte : goal.returns-clause-byte
returns-clause-byte c = OpensByte-outer

pub returns-clause-object_type : goal.returns-clause-object_type
returns-clause-object_type c = OpensType-outer
