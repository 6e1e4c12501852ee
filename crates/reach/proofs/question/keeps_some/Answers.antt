use Rattle.std.proofs.Common.{sym, ◌∙◌}
use Rattle.reach.proofs.Keeping.{keeps-there, keeps-back}
use Rattle.reach.proofs.question.keeps_some.Goals as goal

pub returns-then-stores_locals : goal.returns-then-stores_locals
returns-then-stores_locals g c =
    let v = g.C.CapRep.value c.args.c in (
      λ has.
          keeps-there v c.args.address c.args.length (c.stores_locals.ensures.0 c.if-stores_locals.true)
          (sym c.has_granule-fits.ensures ∙ has),
      λ keeps. c.has_granule-fits.ensures ∙ keeps-back v c.args.address c.args.length keeps,
    )
