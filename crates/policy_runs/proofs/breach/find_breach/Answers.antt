use Rattle.std.proofs.Common.{◌+◌, ⊎_elim, inr}
use Rattle.policy_runs.proofs.Placed.{place-next, state-next, told-next}
use Rattle.policy_runs.proofs.breach.find_breach.Goals as goal

pub returns-in-Done-clause-none : goal.returns-in-Done-clause-none
returns-in-Done-clause-none g c =
    let knows = c.look.ensures.knows (c.in_ok-watcher.ensures.remembers c.args.machine.now) in
    let told = ⊎_elim (λ is. (rw is at c.walk_told-how.ensures.whole).0.told) (λ is. (rw is at c.walk_told-how.ensures.whole).0.told)
    c.in-Done.is in
    rw (c.look.ensures.said, c.in_ok-watcher.ensures.said, c.look.ensures.rules, c.in_ok-watcher.ensures.rules) at (told.1 knows).keep

pub returns-in-Broken-clause-state : goal.returns-in-Broken-clause-state
returns-in-Broken-clause-state g c = state-next (rw (c.in-Barred.is, c.in-Broken.is) at c.walk_told-how.ensures.whole).0

pub returns-in-Broken-clause-refused : goal.returns-in-Broken-clause-refused
returns-in-Broken-clause-refused g c =
    let knows = c.look.ensures.knows (c.in_ok-watcher.ensures.remembers c.args.machine.now) in
    let ended = (rw (c.in-Barred.is, c.in-Broken.is) at c.walk_told-how.ensures.whole).0 in
    let told = told-next ended knows in
    rw (state-next ended)
    (rw (c.look.ensures.said, c.in_ok-watcher.ensures.said, c.look.ensures.rules, c.in_ok-watcher.ensures.rules) at told.1)

pub returns-in-Broken-clause-kept : goal.returns-in-Broken-clause-kept
returns-in-Broken-clause-kept g c =
    let knows = c.look.ensures.knows (c.in_ok-watcher.ensures.remembers c.args.machine.now) in
    let told = told-next (rw (c.in-Barred.is, c.in-Broken.is) at c.walk_told-how.ensures.whole).0 knows in
    rw (c.look.ensures.said, c.in_ok-watcher.ensures.said, c.look.ensures.rules, c.in_ok-watcher.ensures.rules) at told.0

pub returns-in-Barred-clause-midway : goal.returns-in-Barred-clause-midway
returns-in-Barred-clause-midway g c =
    let knows = c.look.ensures.knows (c.in_ok-watcher.ensures.remembers c.args.machine.now) in
    let ended = (rw (c.in-Barred.is, c.in-Memory.is) at c.walk_told-how.ensures.whole).0 in
    let kept = (told-next ended).1 knows in
    inr (
      c.walk_told-how.result.steps + 1,
      place-next ended,
      state-next ended,
      rw (c.look.ensures.said, c.in_ok-watcher.ensures.said, c.look.ensures.rules, c.in_ok-watcher.ensures.rules) at kept,
    )
