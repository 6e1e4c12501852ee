use Rattle.tag_planes.proofs.TagBits.{tag_at-cleared}
use Rattle.tag_planes.proofs.granule.clear_tag.Goals as goal

pub returns-clause-value : goal.returns-clause-value
returns-clause-value c = λ k. tag_at-cleared c.args.planes.now c.args.granule k c.requires
