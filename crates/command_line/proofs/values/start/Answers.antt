use Rattle.std.proofs.Common.{◌∙◌, ap}
use Rattle.std.specs.Prelude.{unwrap_or}
use Rattle.clap.specs.Words.{found_of, rows_of}
use Rattle.command_line.specs.CommandLine.{line_of}
use Rattle.command_line.proofs.Read.{start_said}
use Rattle.command_line.proofs.values.start.Goals as goal

pub returns : goal.returns
returns c =
    start_said (rows_of (found_of c.args.found.now)) (line_of c.args.line.now) c.in-Start.least c.in-Start.field-1 c.unwrap_or.result
    c.in-Start.is c.requires.fit (c.unwrap_or.ensures ∙ ap (λ n. unwrap_or n c.in-Start.least) c.count.ensures)
