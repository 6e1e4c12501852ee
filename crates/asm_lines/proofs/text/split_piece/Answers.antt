use Rattle.std.proofs.Common.{arith, rules}
use Rattle.std.proofs.lemmas.Grind.{common_steps}
use Rattle.asm_lines.proofs.Pieces.{pieces_at, pieces_none}
use Rattle.asm_lines.proofs.text.split_piece.Goals as goal

pub returns-then-end-text-clause-pieces : goal.returns-then-end-text-clause-pieces
returns-then-end-text-clause-pieces c = grind (arith, common_steps, pieces_at)

pub returns-else-end-text-clause-pieces : goal.returns-else-end-text-clause-pieces
returns-else-end-text-clause-pieces c = grind (arith, common_steps, pieces_none)

pub returns-then-end-text-clause-shorter : goal.returns-then-end-text-clause-shorter
returns-then-end-text-clause-shorter c = search rules
