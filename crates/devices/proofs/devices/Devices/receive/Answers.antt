use Rattle.std.proofs.Common.{rules}
use Rattle.devices.specs.Devices.{received}
use Rattle.devices.proofs.devices.Devices.receive.Goals as goal

pub returns-then-is_full : goal.returns-then-is_full
unfolding received
returns-then-is_full c = search rules
