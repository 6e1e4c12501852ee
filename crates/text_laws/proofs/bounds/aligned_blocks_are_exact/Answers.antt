use Rattle.text_laws.proofs.AlignedBlocks.{aligned_blocks}
use Rattle.text_laws.proofs.bounds.aligned_blocks_are_exact.Goals as goal

pub returns : goal.returns
returns c = aligned_blocks
