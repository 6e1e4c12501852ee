use Rattle.policy_audit.proofs.Adding.{on_ok}
use Rattle.policy_audit.proofs.run.tell.Goals as goal

pub append_findings-requires-clause-inside : goal.append_findings-requires-clause-inside
append_findings-requires-clause-inside g c =
    let inside = rw c.in-Some.is at c.in_ok-reach.ensures.inside in
    rw (c.members.ensures, c.deref.ensures.value) inside

pub append_findings-requires-clause-order : goal.append_findings-requires-clause-order
append_findings-requires-clause-order g c =
    let order = rw c.in-Some.is at c.in_ok-reach.ensures.order in
    rw c.members.ensures order

pub returns-in-Some-clause-seen : goal.returns-in-Some-clause-seen
returns-in-Some-clause-seen g c = on_ok c.append_findings.result _ c.in_ok-reach.ensures.seen
