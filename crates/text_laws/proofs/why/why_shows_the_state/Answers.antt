use Rattle.text_laws.specs.SaysLaws.{conditions-say}
use Rattle.text_laws.specs.ShownLaws.{registers-shown, lines-say, traps-by_the_shown}
use Rattle.text_laws.specs.StageLaws.{stages-show}
use Rattle.text_laws.proofs.why.why_shows_the_state.Goals as goal

pub returns-clause-registers : goal.returns-clause-registers
returns-clause-registers c = registers-shown

pub returns-clause-conditions : goal.returns-clause-conditions
returns-clause-conditions c = conditions-say

pub returns-clause-lines : goal.returns-clause-lines
returns-clause-lines c = lines-say

pub returns-clause-stages : goal.returns-clause-stages
returns-clause-stages c = stages-show

pub returns-clause-traps : goal.returns-clause-traps
returns-clause-traps c = traps-by_the_shown
