use Rattle.std.proofs.Common.{rules}
use Rattle.asm_lines.proofs.values.operand_at.Goals as goal

pub returns-clause-value : goal.returns-clause-value
returns-clause-value c = search rules
