use Rattle.std.proofs.Common.{take}
use Rattle.policy_audit.specs.Lines.{AreLinesOf}
use Rattle.policy_audit.proofs.rules.rule_lines.Given as goal

abbrev pub invariant-loop-number : goal.invariant-loop-number
invariant-loop-number l = AreLinesOf l.text (take l.number-index l.numbers) l.lines.items
