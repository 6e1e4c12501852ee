use Rattle.std.proofs.Common.{rules}
use Rattle.devices.specs.Devices.{read_fault}
use Rattle.devices.proofs.devices.Devices.read.Goals as goal

pub returns-then-ne-clause-which : goal.returns-then-ne-clause-which
unfolding read_fault
returns-then-ne-clause-which c = search rules
