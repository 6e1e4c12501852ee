use Rattle.tag_planes.proofs.TagBits.{tag_at-kept}
use Rattle.tag_planes.proofs.range.keep_tags.Goals as goal

pub returns-clause-here : goal.returns-clause-here
returns-clause-here c = λ k here. tag_at-kept c.args.planes.now c.args.index c.args.kept k c.requires here
