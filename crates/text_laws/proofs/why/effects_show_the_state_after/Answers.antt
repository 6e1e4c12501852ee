use Rattle.text_laws.specs.AfterLaws.{shows-the_state_after, shows-the_word, csrs-keep_what_is_shown, devices-are_given_what_is_shown}
use Rattle.text_laws.proofs.why.effects_show_the_state_after.Goals as goal

pub returns-clause-text : goal.returns-clause-text
returns-clause-text c = shows-the_state_after

pub returns-clause-word : goal.returns-clause-word
returns-clause-word c = shows-the_word

pub returns-clause-csrs : goal.returns-clause-csrs
returns-clause-csrs c = csrs-keep_what_is_shown

pub returns-clause-devices : goal.returns-clause-devices
returns-clause-devices c = devices-are_given_what_is_shown
