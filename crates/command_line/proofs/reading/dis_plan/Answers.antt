use Rattle.std.proofs.Common.{refl}
use Rattle.command_line.specs.CommandLine.{commands}
use Rattle.command_line.proofs.Read.{file_said, flag_said, operand_there}
use Rattle.command_line.proofs.reading.dis_plan.Goals as goal

pub operand-requires : goal.operand-requires
unfolding commands
operand-requires c = operand_there _ _ _ _ _ c.requires.0 refl

pub returns : goal.returns
unfolding commands
returns c =
    let image = file_said _ _ _ _ _ _ c.requires.0 refl c.operand.ensures in
    let symbols = file_said _ _ _ _ _ _ c.requires.1.0 refl c.text.ensures in
    let header = flag_said _ _ _ _ _ c.requires.1.1.0 c.flag.ensures in
    let quiet = flag_said _ _ _ _ _ c.requires.1.1.1.0 c.flag-2.ensures in
    (refl, (image, (symbols, (header, (quiet, tt)))))
