use Rattle.std.proofs.Common.{rules}
use Rattle.cap_insns.proofs.numbers.integer.Goals as goal

pub returns : goal.returns
returns g c = search rules
