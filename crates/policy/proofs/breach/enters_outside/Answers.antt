use Rattle.policy.proofs.Tests.{is-entering}
use Rattle.policy.proofs.breach.enters_outside.Goals as goal

pub returns : goal.returns
returns g c = rw c.leads_outside.ensures (is-entering (g.C.CapRep.value c.args.c) c.args.enter.now c.args.execute.now)
