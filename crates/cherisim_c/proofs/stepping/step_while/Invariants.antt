use Rattle.std.proofs.Common.{◌≡◌, ℕ, ◌-◌, ◌<◌, ◌≤◌, replicate}
use Rattle.std.specs.Prelude.{IsTrue, option_to_list}
use Rattle.machine.specs.Run.{run_after, run_sent}
use Rattle.steps.specs.declared.event.Event.TheVariants.{Step}
use Rattle.cherisim_c.specs.Stepping.{has_bytes}
use Rattle.cherisim_c.proofs.stepping.step_while.Given as goal

-- what the steps so far did, before each of which RAM had the bytes
abbrev pub invariant-steps : goal.invariant-steps
invariant-steps l = record {
  few : l.steps ≤ l.fn.most;
  state : l.machine ≡ run_after (replicate l.steps Step) l.fn.machine;
  sent : run_sent (replicate l.steps Step) l.fn.machine ≡ option_to_list l.byte;
  held : (k : ℕ) → k < l.steps → IsTrue (has_bytes l.fn.address l.fn.bytes (run_after (replicate k Step) l.fn.machine));
}

abbrev pub decreases-steps : goal.decreases-steps
decreases-steps l = l.fn.most - l.steps
