use Rattle.policy.proofs.Tests.{is-device}
use Rattle.policy.proofs.breach.opens_device.Goals as goal

pub returns : goal.returns
returns g c = rw c.is_device_open.ensures (is-device (g.C.CapRep.value c.args.c) c.args.permission c.args.ranges.now)
