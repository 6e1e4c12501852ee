use Rattle.std.proofs.Common.{◌∙◌, ap}
use Rattle.clap.specs.Words.{app_of, with_rule}
use Rattle.command_line.proofs.Found.{told}
use Rattle.command_line.proofs.Read.{argument_more}
use Rattle.command_line.proofs.program.+with_arguments.Goals as goal

pub returns-in_ok-command-in-len1-up-clause-app : goal.returns-in_ok-command-in-len1-up-clause-app
returns-in_ok-command-in-len1-up-clause-app t c =
    let made = c.in_ok-command-in-len1-up.ensures.app ∙ ap (with_rule (app_of c.args.command)) c.argument.ensures.rule in
    told c.with_arguments.result _ _ c.with_arguments.ensures.app
    (argument_more c.args.all (app_of c.args.command) _ c.args.lines.now _ c.in-len1-up.len_at_least made)

pub returns-in_ok-command-in-len1-up-clause-local : goal.returns-in_ok-command-in-len1-up-clause-local
returns-in_ok-command-in-len1-up-clause-local t c = c.with_arguments.ensures.local
