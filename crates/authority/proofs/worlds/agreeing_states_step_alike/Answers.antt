use Rattle.authority.specs.AgreeLaws.{looks-agree}
use Rattle.authority.specs.ChangesLaws.{step-changes, step-sends}
use Rattle.authority.specs.SameEffectLaws.{step_effect-same}
use Rattle.authority.specs.TwoWorldsLaws.{event-agrees, outcome-same, sent-same}
use Rattle.authority.proofs.worlds.agreeing_states_step_alike.Goals as goal

pub returns-clause-effect : goal.returns-clause-effect
returns-clause-effect c = step_effect-same

pub returns-clause-sent : goal.returns-clause-sent
returns-clause-sent c = step-sends

pub returns-clause-changes : goal.returns-clause-changes
returns-clause-changes c = step-changes

pub returns-clause-looks : goal.returns-clause-looks
returns-clause-looks c = looks-agree

pub returns-clause-outcome : goal.returns-clause-outcome
returns-clause-outcome c = λ e s t agree. outcome-same s t agree e

pub returns-clause-byte : goal.returns-clause-byte
returns-clause-byte c = λ e s t agree. sent-same s t agree e

pub returns-clause-agreement : goal.returns-clause-agreement
returns-clause-agreement c = event-agrees
