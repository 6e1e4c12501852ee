use Rattle.std.proofs.Common.{◌≡◌, ◌+◌, ◌≤◌, ◌++◌, length}
use Rattle.symbols.specs.Symbols.{lines_of}
use Rattle.symbols.specs.Sources.{places_in, places_of, faulty_place, faulty_place_from}
use Rattle.symbols.proofs.sources.Sources.read.Given as goal

-- the lines so far and those that are left, and the number of the next line
abbrev pub invariant-loop-rest : goal.invariant-loop-rest
invariant-loop-rest l = record {
  lines : l.lines.items ++ places_in (lines_of l.rest) ≡ l.fn.self ++ places_of l.text;
  fault : faulty_place_from l.number (lines_of l.rest) ≡ faulty_place l.text;
  start : 1 ≤ l.number;
  number : l.number + length l.rest ≤ length l.text + 1;
}

abbrev pub decreases-loop-rest : goal.decreases-loop-rest
decreases-loop-rest l = length l.rest
