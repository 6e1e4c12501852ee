use Rattle.std.proofs.Common.{subst}
use Rattle.std.specs.Prelude.{IfNone}
use Rattle.reached.specs.Links.{values}
use Rattle.reach.specs.First.{HoldsOfNone}
use Rattle.reach.specs.Opens.{KeepsSome}
use Rattle.reach.proofs.reach.Reach.first_keep.Goals as goal

pub returns-clause-none : goal.returns-clause-none
returns-clause-none g c =
    subst (λ members. IfNone c.first.result (HoldsOfNone (λ v. KeepsSome v c.args.address c.args.length) (values g.C.CapRep.value members)))
    c.members.ensures c.first.ensures.none
