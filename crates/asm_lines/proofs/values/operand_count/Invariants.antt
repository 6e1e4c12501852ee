use Rattle.std.proofs.Common.{◌≡◌, ◌+◌, ◌≤◌, length}
use Rattle.std.specs.Option.{option_map_or}
use Rattle.asm_lines.specs.Text.{pieces_of, pieces_left}
use Rattle.asm_lines.specs.Seen.{seen_rest}
use Rattle.asm_lines.proofs.values.operand_count.Given as goal

abbrev pub invariant-loop-rest : goal.invariant-loop-rest
invariant-loop-rest l = record {
  value : l.count + length (pieces_left (seen_rest l.rest)) ≡ length (pieces_of l.operands);
  bound : l.count + option_map_or (λ t. length t.now + 1) l.rest 0 ≤ length l.operands + 1;
}

abbrev pub decreases-loop-rest : goal.decreases-loop-rest
decreases-loop-rest l = option_map_or (λ t. length t.now + 1) l.rest 0
