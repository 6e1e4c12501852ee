use Rattle.std.proofs.Common.{subst}
use Rattle.reached.specs.Links.{values}
use Rattle.every_run.specs.Handled.{IsKept}
use Rattle.every_run.specs.Stands.{AreKnown}
use Rattle.every_run.proofs.handler.check_word.Goals as goal

pub returns-clause-known : goal.returns-clause-known
returns-clause-known g c =
    subst (λ pc. AreKnown (IsKept (values g.C.CapRep.value c.args.members.now) c.args.any.now) pc 4) c.pc_of-pc.ensures.value
    (c.are_kept.ensures c.if-not-are_kept.false)
