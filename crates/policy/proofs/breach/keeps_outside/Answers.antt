use Rattle.std.proofs.Common.{inl, inr}
use Rattle.std.proofs.lemmas.Bool.{not-true, not_from_false, cases_Bool}
use Rattle.policy.proofs.Tests.{gap-keeps, none-keeps}
use Rattle.policy.proofs.breach.keeps_outside.Goals as goal

pub returns-then-stores_locals : goal.returns-then-stores_locals
returns-then-stores_locals g c =
    let v = g.C.CapRep.value c.args.c in
    let ranges = c.args.ranges.now in (
      λ out.
          gap-keeps v ranges
          (rw (c.from.ensures, c.max.ensures, c.base.ensures, c.top.ensures.value) at (c.covers.ensures.gap (not-true c.covers.result out)))
          (c.stores_locals.ensures.0 c.if-stores_locals.true),
      λ keeps.
          elim (cases_Bool c.covers.result) [
            | inl all ↦
                absurd (none-keeps v ranges
                (rw (c.from.ensures, c.max.ensures, c.base.ensures, c.top.ensures.value) at (c.covers.ensures.all all)) keeps)
            | inr out ↦ not_from_false c.covers.result out
          ],
    )
