use Rattle.std.proofs.Common.{◌≡◌, ◌+◌, ◌≤◌, ◌-◌, length, drop, nat_lt}
use Rattle.std.specs.List.{position_or_len}
use Rattle.assembler.proofs.capabilities.rank.Given as goal

abbrev pub invariant-loop-rank : goal.invariant-loop-rank
invariant-loop-rank l = record {
  bound : l.rank ≤ length l.capabilities;
  value : l.rank + position_or_len (λ t. nat_lt l.place t.place) (drop l.rank l.capabilities)
      ≡ position_or_len (λ t. nat_lt l.place t.place) l.capabilities;
}

abbrev pub decreases-loop-rank : goal.decreases-loop-rank
decreases-loop-rank l = length l.capabilities - l.rank
