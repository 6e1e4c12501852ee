use Rattle.std.proofs.Common.{refl}
use Rattle.devices.specs.Devices.{received}
use Rattle.debugger.proofs.stepping.bring.Goals as goal

pub returns-in-Some-clause-halted : goal.returns-in-Some-clause-halted
unfolding received
returns-in-Some-clause-halted g c = rw c.event.ensures.state refl
