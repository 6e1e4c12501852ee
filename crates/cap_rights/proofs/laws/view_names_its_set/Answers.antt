use Rattle.cap_rights.specs.PermsLaws.{perms_in_view-hardware_view}
use Rattle.cap_rights.proofs.laws.view_names_its_set.Goals as goal

pub returns : goal.returns
returns c = perms_in_view-hardware_view
