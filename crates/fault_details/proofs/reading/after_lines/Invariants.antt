use Rattle.std.proofs.Common.{◌≡◌}
use Rattle.fault_details.specs.Detail.{after_lines}
use Rattle.fault_details.proofs.reading.after_lines.Given as goal

-- what is left to skip
abbrev pub invariant-loop-left : goal.invariant-loop-left
invariant-loop-left l = after_lines l.left l.rest ≡ after_lines l.count l.text

abbrev pub decreases-loop-left : goal.decreases-loop-left
decreases-loop-left l = l.left
