use Rattle.std.proofs.Common.{◌≡◌, ◌++◌, map, drop}
use Rattle.fault_details.specs.Detail.{under}
use Rattle.fault_details.proofs.reading.append_under.Given as goal

abbrev pub invariant-loop-byte : goal.invariant-loop-byte
invariant-loop-byte l = l.text.items ++ map under (drop l.byte-index l.bytes) ≡ l.fn.text.items ++ map under l.bytes
