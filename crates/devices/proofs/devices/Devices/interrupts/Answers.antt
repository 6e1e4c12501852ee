use Rattle.std.proofs.Common.{rules}
use Rattle.devices.specs.Devices.{interrupts_of}
use Rattle.devices.proofs.devices.Devices.interrupts.Goals as goal

pub returns : goal.returns
unfolding interrupts_of
returns c = search rules
