use Rattle.std.proofs.Common.{◌≡◌, ◌+◌, ◌*◌, ◌^◌, ◌≤◌, ◌++◌, length}
use Rattle.assembler.specs.Left.{left, lines_left}
use Rattle.assembler.specs.Placed.{placed_from, placed_lines}
use Rattle.assembler.specs.Places.{lines_of, all_places, opening_places}
use Rattle.assembler.proofs.assembly.walk.Given as goal

abbrev pub invariant-loop-rest : goal.invariant-loop-rest
invariant-loop-rest l = record {
  places : all_places (lines_of l.text) opening_places ≡ all_places (lines_left l.rest) l.places;
  placed : l.placed.items ++ placed_from l.number l.places.place (lines_left l.rest) ≡ placed_lines l.text;
  start : 1 ≤ l.number;
  lines : l.number + left l.rest ≤ length l.text + 2;
  room : l.places.place + 2 ^ 28 * left l.rest ≤ 2 ^ 64 + 2 ^ 28 * (length l.text + 1);
}

abbrev pub decreases-loop-rest : goal.decreases-loop-rest
decreases-loop-rest l = left l.rest
