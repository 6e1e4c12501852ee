use Rattle.std.proofs.Common.{rules}
use Rattle.asm_lines.specs.Line.{line_meaning}
use Rattle.asm_lines.proofs.line.meaning.Goals as goal

pub returns-then-line-gt255-clause-bounds : goal.returns-then-line-gt255-clause-bounds
unfolding line_meaning
returns-then-line-gt255-clause-bounds c = search rules

pub returns-then-line-gt255-clause-value : goal.returns-then-line-gt255-clause-value
unfolding line_meaning
returns-then-line-gt255-clause-value c = search rules

pub returns-clause-value : goal.returns-clause-value
unfolding line_meaning
returns-clause-value c = search rules
