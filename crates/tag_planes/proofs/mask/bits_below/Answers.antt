use Rattle.tag_planes.proofs.TagBits.{bits_below-is}
use Rattle.tag_planes.proofs.mask.bits_below.Goals as goal

pub returns : goal.returns
returns c = λ j. bits_below-is c.args.count j c.requires
