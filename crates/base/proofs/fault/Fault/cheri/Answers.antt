use Rattle.std.proofs.Common.{rules}
use Rattle.base.specs.Fault.{fault, cheri}
use Rattle.base.proofs.fault.Fault.cheri.Goals as goal

pub returns : goal.returns
unfolding fault cheri
returns c = search rules
