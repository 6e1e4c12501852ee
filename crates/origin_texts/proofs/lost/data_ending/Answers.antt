use Rattle.std.proofs.Common.{subst}
use Rattle.std.specs.Prelude.{IfSome}
use Rattle.origin_texts.specs.Copies.{AreEarly}
use Rattle.origin_texts.proofs.lost.data_ending.Goals as goal

pub returns-in-Some-clause-is : goal.returns-in-Some-clause-is
returns-in-Some-clause-is g c = (
  c.requires.there,
  (c.args.store, c.requires.few, subst (λ o. IfSome o (AreEarly c.args.store)) c.in-Some.is c.in_ok-copy.ensures.early),
)
