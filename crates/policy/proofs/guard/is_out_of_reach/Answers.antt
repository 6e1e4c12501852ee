use Rattle.std.proofs.Common.{subst, inr}
use Rattle.policy.specs.Cover.{ShareNone}
use Rattle.policy.proofs.guard.is_out_of_reach.Goals as goal

pub returns-else-applied : goal.returns-else-applied
returns-else-applied c = λ yes.
    inr (subst (λ xs. ShareNone xs c.args.guard.now.store.items) c.deref.ensures.value
    (subst (ShareNone c.deref.result.now) c.deref-else-applied.ensures.value (c.share_none.ensures yes)))
