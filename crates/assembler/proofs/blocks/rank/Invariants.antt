use Rattle.std.proofs.Common.{◌≡◌, ◌+◌, ◌≤◌, ◌-◌, length, drop, nat_lt}
use Rattle.std.specs.List.{position_or_len}
use Rattle.assembler.proofs.blocks.rank.Given as goal

abbrev pub invariant-loop-rank : goal.invariant-loop-rank
invariant-loop-rank l = record {
  bound : l.rank ≤ length l.blocks;
  value : l.rank + position_or_len (λ t. nat_lt l.address t.address) (drop l.rank l.blocks)
      ≡ position_or_len (λ t. nat_lt l.address t.address) l.blocks;
}

abbrev pub decreases-loop-rank : goal.decreases-loop-rank
decreases-loop-rank l = length l.blocks - l.rank
