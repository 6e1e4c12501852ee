use Rattle.std.proofs.Common.{◌≡◌, drop}
use Rattle.symbols.specs.Symbols.{lines_of}
use Rattle.policy_text.proofs.rule_text.rest_from.Given as goal

abbrev pub invariant-loop-left : goal.invariant-loop-left
invariant-loop-left l = drop l.left (lines_of l.rest) ≡ drop l.lines (lines_of l.text)

abbrev pub decreases-loop-left : goal.decreases-loop-left
decreases-loop-left l = l.left
