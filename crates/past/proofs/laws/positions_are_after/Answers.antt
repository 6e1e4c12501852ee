use Rattle.std.proofs.Common.{ap, take_all, arith}
use Rattle.hart.specs.Opening.{opening}
use Rattle.machine.specs.Run.{run_after}
use Rattle.past.specs.Given.{count_of, past_events, position_of}
use Rattle.past.specs.Position.{beginning}
use Rattle.past.proofs.InOrder.{all_first, length-events_of}
use Rattle.past.proofs.laws.positions_are_after.Goals as goal

pub returns-clause-given : goal.returns-clause-given
returns-clause-given c = all_first

pub returns-clause-position : goal.returns-clause-position
returns-clause-position c = λ past replay. ap (λ given. position_of given (beginning replay)) (all_first past.given)

pub returns-clause-state : goal.returns-clause-state
returns-clause-state c =
    λ past replay. ap (λ events. run_after events (opening past.image))
    (take_all (count_of past.given) (past_events past replay) (omega (arith, length-events_of past.given (beginning replay))))
