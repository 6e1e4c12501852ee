use Rattle.std.proofs.Common.{rules}
use Rattle.base.specs.Fault.{fault}
use Rattle.base.proofs.fault.Fault.of.Goals as goal

pub returns : goal.returns
unfolding fault
returns c = search rules
