use Rattle.std.proofs.Common.{◌≡◌, ◌++◌, ◌≤◌, ◌-◌, drop, length, take}
use Rattle.policy.specs.Opened.{put_type}
use Rattle.policy.proofs.types.count_below.Given as goal

-- those so far are below it
abbrev pub invariant-loop-count : goal.invariant-loop-count
invariant-loop-count l = record {
  few : l.count ≤ length l.types;
  below : put_type l.otype l.types ≡ take l.count l.types ++ put_type l.otype (drop l.count l.types);
}

abbrev pub decreases-loop-count : goal.decreases-loop-count
decreases-loop-count l = length l.types - l.count
