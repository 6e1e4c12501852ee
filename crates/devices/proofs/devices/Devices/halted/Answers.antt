use Rattle.std.proofs.Common.{rules}
use Rattle.devices.proofs.devices.Devices.halted.Goals as goal

pub returns : goal.returns
returns c = search rules
