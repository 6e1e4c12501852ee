use Rattle.std.proofs.Common.{rules}
use Rattle.asm_lines.proofs.class.digit_value.Goals as goal

pub returns-in-97-to-122 : goal.returns-in-97-to-122
returns-in-97-to-122 c = search rules
