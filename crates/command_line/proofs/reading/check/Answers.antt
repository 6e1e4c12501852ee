use Rattle.std.proofs.Common.{map}
use Rattle.clap.specs.Words.{found_of, rows_of}
use Rattle.command_line.specs.CommandLine.{line_of}
use Rattle.command_line.proofs.Found.{not_apart}
use Rattle.command_line.proofs.reading.check.Goals as goal

pub returns-else-are_apart-clause-err : goal.returns-else-are_apart-clause-err
returns-else-are_apart-clause-err c =
    λ saids are stand apart.
    let rows = rows_of (found_of c.args.found.now) in
    not_apart rows (map line_of c.args.lines.now) c.are_apart.result c.are_apart.ensures c.if-are_apart.false saids are apart
