use Rattle.std.proofs.Common.{ap, ◌∙◌}
use Rattle.assembler.specs.Modest.{is_modest_line}
use Rattle.assembler.specs.Buildable.{is_paged_line}
use Rattle.assembler.proofs.PageLemmas.{line_meaning-paged}
use Rattle.assembler.proofs.ModestLemmas.{line_meaning-modest}
use Rattle.assembler.proofs.lines.read.Goals as goal

pub returns-clause-modest : goal.returns-clause-modest
returns-clause-modest c = ap is_modest_line c.parse_line.ensures.value ∙ line_meaning-modest c.args.line.now

pub returns-clause-paged : goal.returns-clause-paged
returns-clause-paged c = ap is_paged_line c.parse_line.ensures.value ∙ line_meaning-paged c.args.line.now
