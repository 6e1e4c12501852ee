use Rattle.std.proofs.Common.{false, ◌≡◌, ◌+◌, ◌*◌, ◌≤◌, ◌++◌, length, vec_len, vec_capacity}
use Rattle.std.specs.Prelude.{Some}
use Rattle.machine.specs.Run.{run_after, run_sent}
use Rattle.debugger.specs.Stepping.{steps_while}
use Rattle.debugger.specs.Marked.{ends_at}
use Rattle.past.specs.Replay.{replayed}
use Rattle.debugger.proofs.stepping.steps_replayed.Given as goal

-- what is still to come after the events so far is what comes after all of them
abbrev pub invariant-loop-left : goal.invariant-loop-left
invariant-loop-left g l = let value = g.C.CapRep.value in record {
  state : run_after (steps_while (ends_at value l.marks l.ends_unfetched) (ends_at value l.later l.unfetched)
      (Some l.replay) l.left l.room l.machine) l.machine
      ≡ run_after (steps_while (ends_at value l.first false) (ends_at value l.later l.unfetched)
      (Some l.fn.replay) l.most l.most_sent l.fn.machine) l.fn.machine;
  bytes : l.sent.items ++ run_sent (steps_while (ends_at value l.marks l.ends_unfetched) (ends_at value l.later l.unfetched)
      (Some l.replay) l.left l.room l.machine) l.machine
      ≡ l.fn.sent.items ++ run_sent (steps_while (ends_at value l.first false) (ends_at value l.later l.unfetched)
      (Some l.fn.replay) l.most l.most_sent l.fn.machine) l.fn.machine;
  replay : replayed (steps_while (ends_at value l.marks l.ends_unfetched) (ends_at value l.later l.unfetched)
      (Some l.replay) l.left l.room l.machine) l.replay
      ≡ replayed (steps_while (ends_at value l.first false) (ends_at value l.later l.unfetched)
      (Some l.fn.replay) l.most l.most_sent l.fn.machine) l.fn.replay;
  counted : length (steps_while (ends_at value l.marks l.ends_unfetched) (ends_at value l.later l.unfetched)
      (Some l.replay) l.left l.room l.machine) + l.count
      ≡ length (steps_while (ends_at value l.first false) (ends_at value l.later l.unfetched)
      (Some l.fn.replay) l.most l.most_sent l.fn.machine);
  below : l.left ≤ l.most;
  few : l.count + 3 * l.left ≤ 3 * l.most;
  len : vec_len l.sent + l.room ≤ vec_len l.fn.sent + l.most_sent;
  room : vec_len l.sent + l.room ≤ vec_capacity l.sent;
}

abbrev pub decreases-loop-left : goal.decreases-loop-left
decreases-loop-left g l = l.left
