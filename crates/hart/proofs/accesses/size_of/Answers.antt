use Rattle.std.proofs.Common.{rules}
use Rattle.steps.specs.Accesses.{size_of}
use Rattle.hart.proofs.accesses.size_of.Goals as goal

pub returns-in_default : goal.returns-in_default
unfolding size_of
returns-in_default c = search rules

pub returns-in_default-2 : goal.returns-in_default-2
unfolding size_of
returns-in_default-2 c = search rules
