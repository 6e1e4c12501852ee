use Rattle.std.proofs.Common.{◌≡◌}
use Rattle.std.specs.Prelude.{replicate}
use Rattle.steps.specs.declared.event.Event.TheVariants.{Step}
use Rattle.machine.specs.Run.{run_after}
use Rattle.steps.specs.IsState.{IsState}
use Rattle.past.specs.Giving.{HasSameSize}
use Rattle.past.proofs.giving.give_steps.Given as goal

-- what the steps that are left lead to is what all of them lead to
abbrev pub invariant-loop-left : goal.invariant-loop-left
invariant-loop-left g l = record {
  state : run_after (replicate l.left Step) l.machine ≡ run_after (replicate l.n Step) l.fn.machine;
  size : HasSameSize l.fn.machine l.machine;
  is_state : IsState l.machine;
}

abbrev pub decreases-loop-left : goal.decreases-loop-left
decreases-loop-left g l = l.left
