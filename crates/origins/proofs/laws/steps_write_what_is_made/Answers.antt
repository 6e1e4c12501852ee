use Rattle.steps.specs.Event.{after}
use Rattle.origins.specs.Made.{made_at}
use Rattle.origins.proofs.Changes.{event-written}
use Rattle.origins.proofs.Stays.{event-stays}
use Rattle.origins.proofs.There.{event-there}
use Rattle.origins.proofs.Becomes.{is-made, is-kept}
use Rattle.origins.proofs.laws.steps_write_what_is_made.Goals as goal

pub returns-clause-made : goal.returns-clause-made
returns-clause-made c = λ p e s making is there some. is-made p s (after e s) (made_at p e s) making (event-written s is p there e) some

pub returns-clause-kept : goal.returns-clause-kept
returns-clause-kept c = λ p e s is there none. is-kept p s (after e s) (made_at p e s) (event-written s is p there e) none

pub returns-clause-there : goal.returns-clause-there
returns-clause-there c = λ p e s is there. event-stays s is e p there

pub returns-clause-sources : goal.returns-clause-sources
returns-clause-sources c = λ p e s making is some. event-there s p e making some
