use Rattle.std.proofs.Common.{rules}
use Rattle.asm_lines.proofs.text.is_dot.Goals as goal

pub returns-then-text-eq1 : goal.returns-then-text-eq1
returns-then-text-eq1 c = search rules
