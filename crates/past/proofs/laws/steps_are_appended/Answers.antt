use Rattle.past.specs.declared.given.Given.TheVariants.{Steps, Ticks, Byte}
use Rattle.std.proofs.Common.{[], ◌∷◌}
use Rattle.past.proofs.InOrder.{events_of-append, one_more, position_of-append}
use Rattle.past.proofs.laws.steps_are_appended.Goals as goal

pub returns-clause-steps : goal.returns-clause-steps
returns-clause-steps c = λ given n p. one_more given (Steps n) p

pub returns-clause-ticks : goal.returns-clause-ticks
returns-clause-ticks c = λ given n p. one_more given (Ticks n) p

pub returns-clause-byte : goal.returns-clause-byte
returns-clause-byte c = λ given b p. one_more given (Byte b) p

pub returns-clause-all : goal.returns-clause-all
returns-clause-all c = events_of-append

pub returns-clause-position : goal.returns-clause-position
returns-clause-position c = position_of-append

pub returns-clause-after_steps : goal.returns-clause-after_steps
returns-clause-after_steps c = λ given n p. position_of-append given (Steps n ∷ []) p
