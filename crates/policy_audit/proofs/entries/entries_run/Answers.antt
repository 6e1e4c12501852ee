use Rattle.std.proofs.Common.{⊎_elim, sym}
use Rattle.policy_audit.proofs.entries.entries_run.Goals as goal

pub returns-in-Done-clause-state : goal.returns-in-Done-clause-state
returns-in-Done-clause-state g c =
    ⊎_elim (λ is. (rw is at c.walk_whole-how.ensures.whole).0.state) (λ is. (rw is at c.walk_whole-how.ensures.whole).0.state)
    c.in-Done.is

pub returns-in-Done-clause-text : goal.returns-in-Done-clause-text
returns-in-Done-clause-text g c =
    let told = ⊎_elim (λ is. (rw is at c.walk_whole-how.ensures.whole).0.told) (λ is. (rw is at c.walk_whole-how.ensures.whole).0.told)
    c.in-Done.is in
    rw (c.text-1.given.1 (sym told.2)) (rw c.new.ensures.items at (told.0 0).1)

pub unreachable-requires : goal.unreachable-requires
unreachable-requires g c =
    let stopped = (rw c.in-Stopped.is at c.walk_whole-how.ensures.whole).2 in
    cc
