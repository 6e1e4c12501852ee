use Rattle.std.proofs.Common.{refl}
use Rattle.image.specs.ImageLaws.{IsImage-image_of}
use Rattle.image.proofs.image.Image.new.Goals as goal

pub invariant_of-result : goal.invariant_of-result
invariant_of-result c =
    IsImage-image_of c.args.version c.args.pages c.args.entry c.args.mode c.args.sections.items c.args.capabilities.items c.requires

pub returns : goal.returns
returns c = refl
