use Rattle.std.proofs.Common.{◌≡◌}
use Rattle.machine.specs.Steps.{BeginWithSteps}
use Rattle.machine.proofs.advance.leading_steps.Given as goal

abbrev pub invariant-loop-event : goal.invariant-loop-event
invariant-loop-event l = record { count : l.count ≡ l.event-index; steps : BeginWithSteps l.count l.events }
