use Rattle.std.proofs.Common.{rules}
use Rattle.asm_lines.proofs.pattern.is_word.Goals as goal

pub returns : goal.returns
returns c = search rules
