use Rattle.std.proofs.Common.{rules}
use Rattle.hart.proofs.hart.Hart.place.Goals as goal

pub returns : goal.returns
returns g c = search rules
