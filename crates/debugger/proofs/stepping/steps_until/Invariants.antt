use Rattle.std.proofs.Common.{false, ◌≡◌, ◌+◌, ◌-◌, ◌≤◌, ◌++◌, length, vec_len, vec_capacity}
use Rattle.std.specs.Prelude.{None}
use Rattle.machine.specs.Run.{run_after, run_sent}
use Rattle.debugger.specs.Stepping.{steps_while}
use Rattle.debugger.specs.Marked.{ends_at}
use Rattle.debugger.proofs.stepping.steps_until.Given as goal

-- what is still to come after the steps so far is what comes after all of them
abbrev pub invariant-loop-planned : goal.invariant-loop-planned
invariant-loop-planned g l = let value = g.C.CapRep.value in record {
  state : run_after (steps_while (ends_at value l.marks l.ends_unfetched) (ends_at value l.later l.unfetched)
      None l.left l.room l.machine) l.machine
      ≡ run_after (steps_while (ends_at value l.first false) (ends_at value l.later l.unfetched)
      None l.most l.most_sent l.fn.machine) l.fn.machine;
  bytes : l.sent.items ++ run_sent (steps_while (ends_at value l.marks l.ends_unfetched) (ends_at value l.later l.unfetched)
      None l.left l.room l.machine) l.machine
      ≡ l.fn.sent.items ++ run_sent (steps_while (ends_at value l.first false) (ends_at value l.later l.unfetched)
      None l.most l.most_sent l.fn.machine) l.fn.machine;
  count : length (steps_while (ends_at value l.marks l.ends_unfetched) (ends_at value l.later l.unfetched)
      None l.left l.room l.machine) + (l.most - l.left)
      ≡ length (steps_while (ends_at value l.first false) (ends_at value l.later l.unfetched) None l.most l.most_sent l.fn.machine);
  below : l.left ≤ l.most;
  len : vec_len l.sent + l.room ≤ vec_len l.fn.sent + l.most_sent;
  room : vec_len l.sent + l.room ≤ vec_capacity l.sent;
}

abbrev pub decreases-loop-planned : goal.decreases-loop-planned
decreases-loop-planned g l = l.left
