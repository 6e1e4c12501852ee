use Rattle.std.proofs.Common.{◌≡◌, ◌++◌, map, drop}
use Rattle.fault_details.specs.SourceLines.{shown_byte}
use Rattle.fault_details.proofs.placing.append_shown.Given as goal

abbrev pub invariant-loop-byte : goal.invariant-loop-byte
invariant-loop-byte l = l.made.items ++ map shown_byte (drop l.byte-index l.byte-items) ≡ l.fn.made.items ++ map shown_byte l.byte-items
