use Rattle.std.proofs.Common.{rules}
use Rattle.cap_rights.specs.Derivations.{seal_entry}
use Rattle.cap_rights.proofs.seals.seal_entry.Goals as goal

pub returns : goal.returns
unfolding seal_entry
returns g c = search rules
