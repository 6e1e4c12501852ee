-- What is remembered of the ranges of code that were entered.
use Rattle.std.specs.Prelude.{map, string_bytes}
use Rattle.policy_audit.specs.declared.entries.Entries.{Entries}
use Rattle.policy_audit.specs.Entries.{Entered}

abbrev pub recalled : Entries → Entered
recalled entries = record { code = entries.code; rules = map string_bytes entries.rules.items }
