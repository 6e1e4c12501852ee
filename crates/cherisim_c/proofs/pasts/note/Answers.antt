use Rattle.std.proofs.Common.{ap, arith}
use Rattle.past.specs.Given.{count_of}
use Rattle.past.proofs.InOrder.{count_of-append}
use Rattle.cherisim_c.proofs.pasts.note.Goals as goal

pub returns-in-Ok-clause-few : goal.returns-in-Ok-clause-few
returns-in-Ok-clause-few c =
    omega (
      arith,
      ap (λ p. count_of p.given) c.in-Ok.ensures.ok,
      count_of-append c.args.past.now.given c.in-Some.given,
      c.count.ensures.value,
      c.count_of.ensures,
      c.if-count-count_of.false,
    )
