use Rattle.cap_rights.specs.PermsLaws.{permits-among}
use Rattle.cap_rights.proofs.laws.permitted_is_among_the_permissions.Goals as goal

pub returns : goal.returns
returns c = permits-among
