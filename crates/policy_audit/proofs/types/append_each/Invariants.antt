use Rattle.std.proofs.Common.{◌≡◌, ◌++◌, drop}
use Rattle.std.specs.List.{flat_map}
use Rattle.std.specs.Prelude.{string_bytes}
use Rattle.policy_audit.specs.Entries.{next_type}
use Rattle.policy_audit.proofs.types.append_each.Given as goal

abbrev pub invariant-loop-otype : goal.invariant-loop-otype
invariant-loop-otype l =
    string_bytes l.text ++ flat_map next_type (drop l.otype-index l.types) ≡ string_bytes l.fn.text ++ flat_map next_type l.types
