use Rattle.origins.proofs.Tagged.{made-tagged}
use Rattle.origins.proofs.laws.tags_stand_by_their_conditions.Goals as goal

pub returns : goal.returns
returns c = made-tagged
