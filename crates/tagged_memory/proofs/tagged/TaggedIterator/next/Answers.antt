use Rattle.std.proofs.Common.{length, ap, arith}
use Rattle.tagged_memory.proofs.Granules.{range-none, range-some}
use Rattle.tagged_memory.proofs.tagged.TaggedIterator.next.Goals as goal

pub returns-then-granule-self-clause-steps : goal.returns-then-granule-self-clause-steps
returns-then-granule-self-clause-steps c =
    let it = c.args.self.now in
    let none = range-none it.planes.now it.next it.end c.next_tag-granule.result c.next_tag-granule.ensures
    c.if-granule-self.true it.within in
    (none, none)

pub returns-clause-steps : goal.returns-clause-steps
returns-clause-steps c =
    let it = c.args.self.now in
    range-some it.planes.now it.next it.end c.next_tag-granule.result c.next_tag-granule.ensures c.if-granule-self.false it.within

pub returns-clause-goes : goal.returns-clause-goes
returns-clause-goes c =
    let it = c.args.self.now in
    let fewer = ap length
    (range-some it.planes.now it.next it.end c.next_tag-granule.result c.next_tag-granule.ensures c.if-granule-self.false it.within) in
    record { on = λ _. (tt, tt, omega (arith, fewer)); keeps = tt; rests = λ _. tt }
