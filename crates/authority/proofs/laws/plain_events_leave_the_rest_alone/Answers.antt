use Rattle.authority.specs.StepLaws.{event-leaves, event-silent}
use Rattle.authority.proofs.laws.plain_events_leave_the_rest_alone.Goals as goal

pub returns-clause-state : goal.returns-clause-state
returns-clause-state c = event-leaves

pub returns-clause-silent : goal.returns-clause-silent
returns-clause-silent c = event-silent
