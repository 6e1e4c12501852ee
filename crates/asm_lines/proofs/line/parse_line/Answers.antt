use Rattle.std.proofs.Common.{subst, sym}
use Rattle.asm_lines.specs.Line.{RowFits}
use Rattle.asm_lines.proofs.FitLaws.{line_meaning-fits}
use Rattle.asm_lines.proofs.line.parse_line.Goals as goal

pub returns-clause-fits : goal.returns-clause-fits
returns-clause-fits c = subst RowFits (sym c.meaning.ensures.value) (line_meaning-fits c.args.line.now)
