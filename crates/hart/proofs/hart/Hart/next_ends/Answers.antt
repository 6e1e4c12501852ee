use Rattle.std.proofs.Common.{rules}
use Rattle.hart.proofs.hart.Hart.next_ends.Goals as goal

pub returns-in-Step-clause-why : goal.returns-in-Step-clause-why
returns-in-Step-clause-why g c = search rules
