use Rattle.std.proofs.Common.{arith, ap}
use Rattle.past.specs.Given.{count_of}
use Rattle.past.proofs.past.Past.events.Goals as goal

pub new-requires : goal.new-requires
new-requires c = omega (arith, c.self.invariant, ap count_of c.deref.ensures.value)
