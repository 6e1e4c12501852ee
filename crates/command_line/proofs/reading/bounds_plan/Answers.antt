use Rattle.std.proofs.Common.{refl, sym}
use Rattle.command_line.specs.CommandLine.{commands}
use Rattle.command_line.proofs.Read.{flag_said, number_said, number_there}
use Rattle.command_line.proofs.reading.bounds_plan.Goals as goal

pub its_number-requires : goal.its_number-requires
unfolding commands
its_number-requires c = number_there _ _ _ _ c.requires.0 refl

pub returns : goal.returns
unfolding commands
returns c = (
  sym c.bounds_of.ensures.name,
  rw c.bounds_of.ensures.said (
    number_said _ _ _ _ _ c.requires.0 c.its_number.ensures,
    (
      number_said _ _ _ _ _ c.requires.1.0 c.number.ensures,
      (number_said _ _ _ _ _ c.requires.1.1.0 c.number-2.ensures, (flag_said _ _ _ _ _ c.requires.1.1.1.0 c.flag.ensures, tt)),
    ),
  ),
)
