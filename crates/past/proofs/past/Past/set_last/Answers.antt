use Rattle.std.proofs.Common.{ap, arith}
use Rattle.past.specs.Given.{but_last, count_of}
use Rattle.past.proofs.InOrder.{count_of-append}
use Rattle.past.proofs.past.Past.set_last.Goals as goal

pub overflow_sub-self : goal.overflow_sub-self
overflow_sub-self c = omega (arith, c.self.invariant, c.set_last-before.ensures.count, c.count_of_one.ensures)

pub overflow_add-self : goal.overflow_add-self
overflow_add-self c =
    let seen = ap (λ past. count_of (but_last past.given)) c.self.view_is in
    omega (
      arith,
      seen,
      c.requires.few,
      c.self.invariant,
      c.set_last-before.ensures.count,
      c.count_of_one.ensures,
      c.count_of_one-2.ensures,
    )

pub invariant_of-self : goal.invariant_of-self
invariant_of-self c =
    omega (
      arith,
      c.self.invariant,
      c.set_last-before.ensures.count,
      c.count_of_one.ensures,
      c.count_of_one-2.ensures,
      ap count_of c.set_last-before.ensures.items,
      count_of-append (but_last c.self.inside.given.items) c.args.given,
    )
