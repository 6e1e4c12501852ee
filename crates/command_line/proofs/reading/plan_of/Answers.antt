use Rattle.command_line.proofs.Found.{first_sound}
use Rattle.command_line.proofs.reading.plan_of.Goals as goal

pub returns-in-None-clause-sound : goal.returns-in-None-clause-sound
returns-in-None-clause-sound c = first_sound
