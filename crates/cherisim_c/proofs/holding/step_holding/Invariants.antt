use Rattle.std.proofs.Common.{◌≡◌, ℕ, ◌-◌, ◌<◌, ◌≤◌, replicate}
use Rattle.std.specs.Prelude.{IsTrue, option_to_list}
use Rattle.machine.specs.Run.{run_after, run_sent}
use Rattle.origins.specs.Places.{IsThere, held}
use Rattle.steps.specs.declared.event.Event.TheVariants.{Step}
use Rattle.cherisim_c.specs.Stepping.{holds}
use Rattle.cherisim_c.proofs.holding.step_holding.Given as goal

-- what the steps so far did, before each of which the place held its value
abbrev pub invariant-steps : goal.invariant-steps
invariant-steps g l = record {
  value : g.C.CapRep.value l.value ≡ held l.fn.place l.fn.machine;
  few : l.steps ≤ l.fn.most;
  state : l.machine ≡ run_after (replicate l.steps Step) l.fn.machine;
  sent : run_sent (replicate l.steps Step) l.fn.machine ≡ option_to_list l.byte;
  held : (k : ℕ) → k < l.steps → IsTrue (holds l.fn.place (held l.fn.place l.fn.machine) (run_after (replicate k Step) l.fn.machine));
  there : IsThere l.fn.place l.machine;
}

abbrev pub decreases-steps : goal.decreases-steps
decreases-steps g l = l.fn.most - l.steps
