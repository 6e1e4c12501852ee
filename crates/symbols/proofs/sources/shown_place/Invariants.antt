use Rattle.std.proofs.Common.{◌≡◌, ◌++◌, map, drop}
use Rattle.symbols.specs.Sources.{shown_byte}
use Rattle.symbols.proofs.sources.shown_place.Given as goal

abbrev pub invariant-loop-byte : goal.invariant-loop-byte
invariant-loop-byte l = l.shown.items ++ map shown_byte (drop l.byte-index l.byte-items) ≡ map shown_byte l.byte-items
