use Rattle.authority.proofs.Granules.{tags-everywhere}
use Rattle.authority.proofs.worlds.tags_lie_at_granules.Goals as goal

pub returns : goal.returns
returns c = tags-everywhere
