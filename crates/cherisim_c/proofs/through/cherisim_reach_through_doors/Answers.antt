use Rattle.cherisim_c.proofs.Reaches.{through_for_c}
use Rattle.cherisim_c.proofs.through.cherisim_reach_through_doors.Goals as goal

pub returns-in-Some-clause-reachable : goal.returns-in-Some-clause-reachable
returns-in-Some-clause-reachable c =
    let copied = c.copy_reach-status.ensures in
    rw c.in-Some.ensures.value (λ done. through_for_c _ _ _ c.deref.ensures (copied.reachable done) (copied.ok done).1)
