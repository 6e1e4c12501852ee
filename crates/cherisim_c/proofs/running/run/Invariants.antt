use Rattle.std.proofs.Common.{◌≡◌, ◌+◌, ◌-◌, ◌≤◌, ◌++◌, length, take}
use Rattle.machine.specs.Run.{run_after, run_sent}
use Rattle.schedules.specs.Schedule.{steps_in}
use Rattle.cherisim_c.specs.Running.{stop_at, run_events}
use Rattle.cherisim_c.proofs.Runs.{left_over}
use Rattle.cherisim_c.proofs.running.run.Given as goal

-- what the steps so far did, and what is left, make the whole run
abbrev pub invariant-loop-stop : goal.invariant-loop-stop
invariant-loop-stop l = record {
  few : l.left ≤ l.fn.asked.steps;
  room : l.sent ≤ length l.out;
  same : length l.out ≡ length l.fn.out;
  stop : l.stop ≡ stop_at l.fn.asked l.left (length l.out - l.sent) l.machine;
  state : run_after (left_over l.fn.asked l.left (length l.out - l.sent) l.machine) l.machine
      ≡ run_after (run_events l.fn.asked (length l.fn.out) l.fn.machine) l.fn.machine;
  bytes : take l.sent l.out ++ run_sent (left_over l.fn.asked l.left (length l.out - l.sent) l.machine) l.machine
      ≡ run_sent (run_events l.fn.asked (length l.fn.out) l.fn.machine) l.fn.machine;
  steps : (l.fn.asked.steps - l.left) + steps_in (left_over l.fn.asked l.left (length l.out - l.sent) l.machine)
      ≡ steps_in (run_events l.fn.asked (length l.fn.out) l.fn.machine);
}

abbrev pub decreases-loop-stop : goal.decreases-loop-stop
decreases-loop-stop l = l.left
