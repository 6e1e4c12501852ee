use Rattle.std.proofs.Common.{rules}
use Rattle.asm_lines.proofs.values.is_in_size.Goals as goal

pub returns-then-number-geminus128 : goal.returns-then-number-geminus128
returns-then-number-geminus128 c = search rules
