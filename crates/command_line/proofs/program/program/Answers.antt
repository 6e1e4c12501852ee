use Rattle.std.proofs.Common.{◌≡◌, ◌∙◌, ap, codes, map, rules}
use Rattle.clap.specs.Words.{app_of, new_app}
use Rattle.command_line.specs.CommandLine.{entry_of, program, with_commands}
use Rattle.command_line.proofs.Found.{told}
use Rattle.command_line.proofs.program.program.Goals as goal

pub returns : goal.returns
unfolding program
returns c =
    let bare : app_of c.after_help-program.result ≡ new_app (codes "cherisim") = search rules in
    told c.with_commands.result (with_commands c.args.all (app_of c.after_help-program.result) (map entry_of c.args.rows.now))
    (program c.args.all) c.with_commands.ensures
    (ap (λ a. with_commands c.args.all a (map entry_of c.args.rows.now)) bare
    ∙ ap (with_commands c.args.all (new_app (codes "cherisim"))) c.requires)
