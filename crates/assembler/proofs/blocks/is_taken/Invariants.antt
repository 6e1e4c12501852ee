use Rattle.std.proofs.Common.{◌≡◌, drop}
use Rattle.assembler.specs.Faults.{is_taken}
use Rattle.assembler.proofs.blocks.is_taken.Given as goal

abbrev pub invariant-loop-block : goal.invariant-loop-block
invariant-loop-block l = is_taken l.from l.to l.blocks ≡ is_taken l.from l.to (drop l.block-index l.blocks)
