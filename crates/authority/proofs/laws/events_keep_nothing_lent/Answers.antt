use Rattle.authority.specs.LentLaws.{event-kept}
use Rattle.authority.proofs.laws.events_keep_nothing_lent.Goals as goal

pub returns : goal.returns
returns c = event-kept
