use Rattle.std.proofs.Common.{◌≡◌, ◌+◌, ◌-◌, ◌≤◌, length, drop}
use Rattle.tag_planes.proofs.Blocks.{first_set}
use Rattle.tag_planes.proofs.words.first_of_few.Given as goal

abbrev pub invariant-loop-index : goal.invariant-loop-index
invariant-loop-index l = (first_set l.words ≡ l.index + first_set (drop l.index l.words)) × (l.index ≤ length l.words)

abbrev pub decreases-loop-index : goal.decreases-loop-index
decreases-loop-index l = length l.words - l.index
