use Rattle.std.proofs.Common.{◌≡◌, ◌+◌, ◌≤◌, ◌++◌, vec_len, vec_capacity}
use Rattle.std.specs.Prelude.{replicate}
use Rattle.steps.specs.declared.event.Event.TheVariants.{Step}
use Rattle.machine.specs.Run.{run_after, run_sent}
use Rattle.debugger.proofs.run.steps.Given as goal

-- what is still to come after the steps so far is what comes after all of them
abbrev pub invariant-loop-left : goal.invariant-loop-left
invariant-loop-left g l = record {
  state : run_after (replicate l.left Step) l.machine ≡ run_after (replicate l.times Step) l.fn.machine;
  bytes : l.sent.items ++ run_sent (replicate l.left Step) l.machine ≡ l.fn.sent.items
      ++ run_sent (replicate l.times Step) l.fn.machine;
  len : vec_len l.sent + l.left ≤ vec_len l.fn.sent + l.times;
  room : vec_len l.sent + l.left ≤ vec_capacity l.sent;
}

abbrev pub decreases-loop-left : goal.decreases-loop-left
decreases-loop-left g l = l.left
