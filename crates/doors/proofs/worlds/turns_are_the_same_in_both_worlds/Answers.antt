use Rattle.doors.proofs.TwoWorlds.{turn-same, turn-goes_on, turn-twin}
use Rattle.doors.proofs.worlds.turns_are_the_same_in_both_worlds.Goals as goal

pub returns-clause-turn : goal.returns-clause-turn
returns-clause-turn c = turn-same

pub returns-clause-goes_on : goal.returns-clause-goes_on
returns-clause-goes_on c = turn-goes_on

pub returns-clause-twin : goal.returns-clause-twin
returns-clause-twin c = turn-twin
