use Rattle.std.proofs.Common.{refl}
use Rattle.command_line.specs.CommandLine.{commands}
use Rattle.command_line.proofs.Read.{count_said, count_there, file_said, flag_said, operand_there}
use Rattle.command_line.proofs.reading.prove_plan.Goals as goal

pub operand-requires : goal.operand-requires
unfolding commands
operand-requires c = operand_there _ _ _ _ _ c.requires.0 refl

pub operand-requires-2 : goal.operand-requires-2
unfolding commands
operand-requires-2 c = operand_there _ _ _ _ _ c.requires.1.0 refl

pub its_count-requires : goal.its_count-requires
unfolding commands
its_count-requires c = count_there _ _ _ _ _ _ c.requires.1.1.1.1.0 refl

pub returns : goal.returns
unfolding commands
returns c =
    let image = file_said _ _ _ _ _ _ c.requires.0 refl c.operand.ensures in
    let policy = file_said _ _ _ _ _ _ c.requires.1.0 refl c.operand-2.ensures in
    let symbols = file_said _ _ _ _ _ _ c.requires.1.1.0 refl c.text.ensures in
    let lines = file_said _ _ _ _ _ _ c.requires.1.1.1.0 refl c.text-2.ensures in
    let steps = count_said _ _ _ _ _ _ _ c.requires.1.1.1.1.0 c.its_count.ensures in
    let quiet = flag_said _ _ _ _ _ c.requires.1.1.1.1.1.0 c.flag.ensures in
    (refl, (image, (policy, (symbols, (lines, (steps, (quiet, tt)))))))
