use Rattle.std.proofs.Common.{◌≡◌, take}
use Rattle.image.specs.Image.{lent_sections}
use Rattle.assembler.proofs.blocks.lent.Given as goal

abbrev pub invariant-loop-block : goal.invariant-loop-block
invariant-loop-block l = lent_sections l.parts.items ≡ take l.block-index l.blocks
