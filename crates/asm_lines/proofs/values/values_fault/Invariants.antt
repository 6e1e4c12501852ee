use Rattle.std.proofs.Common.{◌≡◌, ◌+◌, length}
use Rattle.std.specs.Option.{option_map_or}
use Rattle.asm_lines.specs.Text.{pieces_of, pieces_left}
use Rattle.asm_lines.specs.Operand.{told_fault}
use Rattle.asm_lines.specs.Statement.{values_fault}
use Rattle.asm_lines.specs.Seen.{seen_rest}
use Rattle.asm_lines.proofs.values.values_fault.Given as goal

abbrev pub invariant-values : goal.invariant-values
invariant-values l =
    told_fault l.fault (values_fault l.size (pieces_left (seen_rest l.rest))) ≡ values_fault l.size (pieces_of l.fn.operands)

abbrev pub decreases-values : goal.decreases-values
decreases-values l = option_map_or (λ text. length text.now + 1) l.rest 0
