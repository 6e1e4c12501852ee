use Rattle.std.proofs.Common.{rules}
use Rattle.devices.specs.Devices.{effect_of}
use Rattle.devices.proofs.devices.Devices.sends.Goals as goal

pub returns-in-Some-Transmit : goal.returns-in-Some-Transmit
unfolding effect_of
returns-in-Some-Transmit c = search rules
