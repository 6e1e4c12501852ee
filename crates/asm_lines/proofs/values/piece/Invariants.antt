use Rattle.std.proofs.Common.{◌≡◌, ◌+◌, [], length, get_or}
use Rattle.std.specs.Option.{option_map_or}
use Rattle.asm_lines.specs.Text.{pieces_of, pieces_left}
use Rattle.asm_lines.specs.Seen.{seen_rest}
use Rattle.asm_lines.proofs.values.piece.Given as goal

abbrev pub invariant-loop-rest : goal.invariant-loop-rest
invariant-loop-rest l = get_or (pieces_left (seen_rest l.rest)) l.left [] ≡ get_or (pieces_of l.operands) l.index []

abbrev pub decreases-loop-rest : goal.decreases-loop-rest
decreases-loop-rest l = option_map_or (λ t. length t.now + 1) l.rest 0
