use Rattle.std.proofs.Common.{ap, arith}
use Rattle.past.specs.Given.{count_of}
use Rattle.past.proofs.InOrder.{first_count}
use Rattle.past.proofs.past.Past.keep.Goals as goal

pub invariant_of-self : goal.invariant_of-self
invariant_of-self c =
    omega (
      arith,
      c.min-self-inside.ensures,
      c.self.invariant,
      ap count_of c.keep_first.ensures,
      first_count c.args.n c.self.inside.given.items,
    )
