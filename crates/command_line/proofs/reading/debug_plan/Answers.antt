use Rattle.std.proofs.Common.{refl}
use Rattle.command_line.specs.CommandLine.{commands}
use Rattle.command_line.proofs.Read.{count_said, file_said, flag_said, operand_there}
use Rattle.command_line.proofs.reading.debug_plan.Goals as goal

pub operand-requires : goal.operand-requires
unfolding commands
operand-requires c = operand_there _ _ _ _ _ c.requires.0 refl

pub returns : goal.returns
unfolding commands
returns c =
    let image = file_said _ _ _ _ _ _ c.requires.0 refl c.operand.ensures in
    let symbols = file_said _ _ _ _ _ _ c.requires.1.0 refl c.text.ensures in
    let lines = file_said _ _ _ _ _ _ c.requires.1.1.0 refl c.text-2.ensures in
    let input = file_said _ _ _ _ _ _ c.requires.1.1.1.0 refl c.text-3.ensures in
    let gap = count_said _ _ _ _ _ _ _ c.requires.1.1.1.1.0 c.count.ensures in
    let tick = count_said _ _ _ _ _ _ _ c.requires.1.1.1.1.1.0 c.count-2.ensures in
    let quiet = flag_said _ _ _ _ _ c.requires.1.1.1.1.1.1.0 c.flag.ensures in
    (refl, (image, (symbols, (lines, (input, (gap, (tick, (quiet, tt))))))))
