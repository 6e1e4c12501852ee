use Rattle.std.proofs.Common.{◌≡◌, map, take}
use Rattle.policy.specs.Opened.{entry_range}
use Rattle.policy.proofs.entries.ranges_at.Given as goal

abbrev pub invariant-loop-entry : goal.invariant-loop-entry
invariant-loop-entry l = l.ranges.items ≡ map entry_range (take l.entry-index l.entries)
