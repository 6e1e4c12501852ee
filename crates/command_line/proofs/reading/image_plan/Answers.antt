use Rattle.std.proofs.Common.{refl}
use Rattle.command_line.specs.CommandLine.{commands}
use Rattle.command_line.proofs.Read.{file_said, flag_said, number_said, operand_there}
use Rattle.command_line.proofs.reading.image_plan.Goals as goal

pub operand-requires : goal.operand-requires
unfolding commands
operand-requires c = operand_there _ _ _ _ _ c.requires.0 refl

pub operand-requires-2 : goal.operand-requires-2
unfolding commands
operand-requires-2 c = operand_there _ _ _ _ _ c.requires.1.0 refl

pub returns : goal.returns
unfolding commands
returns c =
    let flat = file_said _ _ _ _ _ _ c.requires.0 refl c.operand.ensures in
    let output = file_said _ _ _ _ _ _ c.requires.1.0 refl c.operand-2.ensures in
    let first = number_said _ _ _ _ _ c.requires.1.1.0 c.number.ensures in
    let entry = number_said _ _ _ _ _ c.requires.1.1.1.0 c.number-2.ensures in
    let pages = number_said _ _ _ _ _ c.requires.1.1.1.1.0 c.number-3.ensures in
    let mode = number_said _ _ _ _ _ c.requires.1.1.1.1.1.0 c.number-4.ensures in
    let flat_elf = flag_said _ _ _ _ _ c.requires.1.1.1.1.1.1.0 c.flag.ensures in
    let quiet = flag_said _ _ _ _ _ c.requires.1.1.1.1.1.1.1.0 c.flag-2.ensures in
    (refl, (flat, (output, (first, (entry, (pages, (mode, (flat_elf, (quiet, tt)))))))))
