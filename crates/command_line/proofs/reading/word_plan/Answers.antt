use Rattle.std.proofs.Common.{refl}
use Rattle.command_line.specs.CommandLine.{commands}
use Rattle.command_line.proofs.Read.{flag_said, number_said, number_there}
use Rattle.command_line.proofs.reading.word_plan.Goals as goal

pub its_number-requires : goal.its_number-requires
unfolding commands
its_number-requires c = number_there _ _ _ _ c.requires.0 refl

pub its_number-requires-2 : goal.its_number-requires-2
unfolding commands
its_number-requires-2 c = number_there _ _ _ _ c.requires.1.0 refl

pub returns : goal.returns
unfolding commands
returns c =
    let high = number_said _ _ _ _ _ c.requires.0 c.its_number.ensures in
    let low = number_said _ _ _ _ _ c.requires.1.0 c.its_number-2.ensures in
    let memory = flag_said _ _ _ _ _ c.requires.1.1.0 c.flag.ensures in
    let json = flag_said _ _ _ _ _ c.requires.1.1.1.0 c.flag-2.ensures in
    (refl, (high, (low, (memory, (json, tt)))))
