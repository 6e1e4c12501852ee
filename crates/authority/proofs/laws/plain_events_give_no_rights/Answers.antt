use Rattle.steps.specs.Event.{after}
use Rattle.authority.specs.GroundedLaws.{NoNewRights-grows, NewSealsAllowed-grows}
use Rattle.authority.specs.StepLaws.{event-grows_not}
use Rattle.authority.proofs.laws.plain_events_give_no_rights.Goals as goal

pub returns-clause-rights : goal.returns-clause-rights
returns-clause-rights c = λ s is e plain. NoNewRights-grows s (after e s) (event-grows_not s is e plain)

pub returns-clause-seals : goal.returns-clause-seals
returns-clause-seals c = λ s is e plain. NewSealsAllowed-grows s (after e s) (event-grows_not s is e plain)
