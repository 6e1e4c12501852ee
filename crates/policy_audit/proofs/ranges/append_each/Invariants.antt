use Rattle.std.proofs.Common.{◌≡◌, ◌++◌, drop}
use Rattle.std.specs.List.{flat_map}
use Rattle.std.specs.Prelude.{string_bytes}
use Rattle.policy_audit.specs.Entries.{next_range}
use Rattle.policy_audit.proofs.ranges.append_each.Given as goal

abbrev pub invariant-loop-range : goal.invariant-loop-range
invariant-loop-range l =
    string_bytes l.text ++ flat_map next_range (drop l.range-index l.ranges) ≡ string_bytes l.fn.text ++ flat_map next_range l.ranges
