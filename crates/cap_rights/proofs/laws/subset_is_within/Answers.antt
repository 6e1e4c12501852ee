use Rattle.cap_rights.specs.DerivationLaws.{subset-IsWithin}
use Rattle.cap_rights.proofs.laws.subset_is_within.Goals as goal

pub returns : goal.returns
returns c = subset-IsWithin
