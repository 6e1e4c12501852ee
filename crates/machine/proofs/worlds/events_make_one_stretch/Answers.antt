use Rattle.machine.proofs.Twins.{one-stretch}
use Rattle.machine.proofs.worlds.events_make_one_stretch.Goals as goal

pub returns : goal.returns
returns c = one-stretch
