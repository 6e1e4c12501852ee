use Rattle.std.proofs.Common.{◌≡◌, ◌≤◌, drop, length}
use Rattle.symbols.specs.Places.{IsPlacing}
use Rattle.symbols.proofs.sources.places_of.Given as goal

-- the lines from an index on are placed
abbrev pub invariant-loop-index : goal.invariant-loop-index
invariant-loop-index l = record {
  placed : IsPlacing l.places (drop l.index l.lines);
  within : l.index ≤ length l.lines;
}

abbrev pub decreases-loop-index : goal.decreases-loop-index
decreases-loop-index l = l.index
