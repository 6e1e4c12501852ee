use Rattle.symbols.proofs.LineLemmas.{line_ended}
use Rattle.symbols.proofs.lines.split_line.Goals as goal

pub returns-in-Some-clause-split : goal.returns-in-Some-clause-split
returns-in-Some-clause-split c = line_ended c.args.text.now c.in-Some.cut.0.now c.in-Some.cut.1.now c.in-Some.ensures.ended
