use Rattle.std.proofs.Common.{◌≡◌, ◌+◌, ◌-◌, ◌≤◌, length, drop}
use Rattle.tag_planes.proofs.Blocks.{first_set}
use Rattle.tag_planes.proofs.words.first_word.Given as goal

abbrev pub invariant-loop-start : goal.invariant-loop-start
invariant-loop-start l = (first_set l.words ≡ l.start + first_set (drop l.start l.words)) × (l.start ≤ length l.words)

abbrev pub decreases-loop-start : goal.decreases-loop-start
decreases-loop-start l = length l.words - l.start
