use Rattle.tag_planes.proofs.TagBits.{bits_from-is}
use Rattle.tag_planes.proofs.mask.bits_from.Goals as goal

pub returns : goal.returns
returns c = λ j inside. bits_from-is c.args.count j c.requires inside
