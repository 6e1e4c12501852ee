use Rattle.std.proofs.Common.{◌≡◌, take}
use Rattle.image.specs.Image.{lent_sections}
use Rattle.image.proofs.image.copies.Given as goal

abbrev pub invariant-loop-address : goal.invariant-loop-address
invariant-loop-address l = l.copied.items ≡ lent_sections (take l.address-index l.sections)
