use Rattle.std.proofs.Common.{◌≡◌, ◌+◌, ◌*◌, ◌^◌, ◌≤◌, length}
use Rattle.assembler.specs.Buildable.{IsBuildable}
use Rattle.assembler.specs.Faults.{opening}
use Rattle.assembler.specs.Left.{left, lines_left}
use Rattle.assembler.specs.Places.{lines_of}
use Rattle.assembler.specs.Standing.{before_fault}
use Rattle.assembler.specs.Text.{first_faulty_line, all_assembled}
use Rattle.assembler.proofs.assembly.built.Given as goal

abbrev pub invariant-loop-rest : goal.invariant-loop-rest
invariant-loop-rest l = record {
  fault : first_faulty_line l.labels opening 1 (lines_of l.text) ≡ first_faulty_line l.labels l.builder l.number (lines_left l.rest);
  built : all_assembled l.labels opening (lines_of l.text) ≡ all_assembled l.labels l.builder (lines_left l.rest);
  before : before_fault l.labels opening (lines_of l.text) ≡ before_fault l.labels l.builder (lines_left l.rest);
  buildable : IsBuildable l.builder;
  start : 1 ≤ l.number;
  lines : l.number + left l.rest ≤ length l.text + 2;
  room : l.builder.places.place + 2 ^ 28 * left l.rest ≤ 2 ^ 64 + 2 ^ 28 * (length l.text + 1);
}

abbrev pub decreases-loop-rest : goal.decreases-loop-rest
decreases-loop-rest l = left l.rest
