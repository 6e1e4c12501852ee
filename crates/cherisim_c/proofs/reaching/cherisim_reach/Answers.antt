use Rattle.cherisim_c.proofs.Reaches.{reachable_for_c}
use Rattle.cherisim_c.proofs.reaching.cherisim_reach.Goals as goal

pub returns-in-Some-clause-reachable : goal.returns-in-Some-clause-reachable
returns-in-Some-clause-reachable c =
    let copied = c.copy_reach-status.ensures in
    rw c.in-Some.ensures.value (λ done. reachable_for_c _ _ _ c.deref.ensures (copied.reachable done) (copied.ok done).1)
