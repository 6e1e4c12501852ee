use Rattle.std.proofs.Common.{rules}
use Rattle.devices.proofs.devices.Devices.new.Goals as goal

pub returns : goal.returns
returns c = search rules
