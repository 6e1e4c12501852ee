use Rattle.clap.specs.Words.{app_of}
use Rattle.command_line.proofs.Found.{told}
use Rattle.command_line.proofs.Read.{command_more}
use Rattle.command_line.proofs.program.+with_commands.Goals as goal

pub returns-in_ok-program-in-len1-up : goal.returns-in_ok-program-in-len1-up
returns-in_ok-program-in-len1-up t c =
    told c.with_commands.result _ _ c.with_commands.ensures
    (command_more c.args.all (app_of c.args.program) _ c.args.rows.now _ c.in-len1-up.len_at_least c.in_ok-program-in-len1-up.ensures)
