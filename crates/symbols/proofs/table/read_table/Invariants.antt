use Rattle.std.proofs.Common.{◌≡◌, ◌+◌, ◌≤◌, ◌++◌, length}
use Rattle.symbols.specs.Symbols.{lines_of, symbols_in, symbols_of, faulty_from, faulty_line}
use Rattle.symbols.proofs.table.read_table.Given as goal

-- the symbols so far and those of the lines that are left, and the number of the next line
abbrev pub invariant-loop-rest : goal.invariant-loop-rest
invariant-loop-rest l = record {
  symbols : l.entries.items ++ symbols_in (lines_of l.rest) ≡ symbols_of l.text;
  fault : faulty_from l.number (lines_of l.rest) ≡ faulty_line l.text;
  start : 1 ≤ l.number;
  number : l.number + length l.rest ≤ length l.text + 1;
}

abbrev pub decreases-loop-rest : goal.decreases-loop-rest
decreases-loop-rest l = length l.rest
