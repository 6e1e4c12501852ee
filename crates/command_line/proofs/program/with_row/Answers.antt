use Rattle.std.proofs.Common.{ap}
use Rattle.clap.specs.Words.{app_of, with_subcommand}
use Rattle.command_line.proofs.Found.{told}
use Rattle.command_line.proofs.program.with_row.Goals as goal

pub returns : goal.returns
returns c =
    told c.with_command.result _ _ c.with_command.ensures
    (ap (λ a. with_subcommand (app_of c.args.program) a.top) c.in_ok-made.ensures.app)
