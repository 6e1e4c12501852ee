use Rattle.std.proofs.Common.{rules}
use Rattle.devices.specs.Devices.{value_at}
use Rattle.devices.proofs.devices.Devices.value_at.Goals as goal

pub returns-in-None : goal.returns-in-None
unfolding value_at
returns-in-None c = search rules
