use Rattle.std.proofs.Common.{◌≡◌, ◌≤◌, drop, length}
use Rattle.symbols.specs.Places.{IsPlacing, later_of}
use Rattle.symbols.proofs.table.Table.placed.Given as goal

-- the symbols from an index on are placed, and the next ones of them known
abbrev pub invariant-loop-index : goal.invariant-loop-index
invariant-loop-index l = record {
  placed : IsPlacing l.places (drop l.index l.entries.items);
  linked : l.later.items ≡ later_of (drop l.index l.entries.items);
  within : l.index ≤ length l.entries.items;
}

abbrev pub decreases-loop-index : goal.decreases-loop-index
decreases-loop-index l = l.index
