use Rattle.std.proofs.Common.{◌+◌, ◌≤◌, length, IfSome}
use Rattle.assembler.specs.Further.{own_faults, faults_after}
use Rattle.assembler.specs.Left.{left, lines_left}
use Rattle.assembler.specs.Told.{IsUpTo}
use Rattle.assembler.proofs.further.further_faults.Given as goal

abbrev pub invariant-loop-rest : goal.invariant-loop-rest
invariant-loop-rest l = record {
  told : IsUpTo l.most (faults_after l.first l.text) (own_faults (l.number + 1) (lines_left l.rest)) l.further;
  counted : l.further.left ≤ l.number;
  lines : IfSome l.rest (λ rest. l.number + length rest.now ≤ length l.text);
}

abbrev pub decreases-loop-rest : goal.decreases-loop-rest
decreases-loop-rest l = left l.rest
