use Rattle.std.proofs.Common.{◌∙◌, ap, sym}
use Rattle.clap.specs.Words.{found_of, rows_of}
use Rattle.command_line.specs.CommandLine.{lines_named}
use Rattle.command_line.proofs.Found.{no_command}
use Rattle.command_line.proofs.reading.plan_of_command.Goals as goal

pub returns-in-None-clause-none : goal.returns-in-None-clause-none
returns-in-None-clause-none c =
    no_command c.args.name.now (rows_of (found_of c.args.found.now))
    (c.in-None.ensures ∙ ap (lines_named c.args.name.now) c.requires)

pub plan_of_lines-requires : goal.plan_of_lines-requires
plan_of_lines-requires c = ap (lines_named c.args.name.now) (sym c.requires) ∙ sym c.in-Some.ensures
