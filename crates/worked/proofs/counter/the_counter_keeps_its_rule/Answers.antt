use Rattle.authority.specs.ConfinedLaws.{agrees}
use Rattle.worked.proofs.Confining.{confined, members, same-looks}
use Rattle.worked.proofs.Counting.{plain}
use Rattle.worked.proofs.Ruled.{applies-each, differs, keep-to-each, none-traps, holds}
use Rattle.worked.specs.Counter.{counter, round}
use Rattle.worked.proofs.counter.the_counter_keeps_its_rule.Goals as goal

pub returns-clause-reach : goal.returns-clause-reach
unfolding counter
returns-clause-reach c = λ secret. members secret (c.confined_code_reaches_its_two_capabilities.ensures.reachable (counter secret)
    (confined secret))

pub returns-clause-looks : goal.returns-clause-looks
returns-clause-looks c = same-looks

pub returns-clause-agree : goal.returns-clause-agree
returns-clause-agree c = λ secret other. agrees (counter secret) (confined secret) (counter other) (same-looks secret other)

pub returns-clause-differs : goal.returns-clause-differs
returns-clause-differs c = differs

pub returns-clause-applies : goal.returns-clause-applies
returns-clause-applies c = applies-each

pub returns-clause-keeps : goal.returns-clause-keeps
unfolding counter
returns-clause-keeps c = λ secret fits.
    let run = plain secret fits in
    keep-to-each round (counter secret) run.state run.are_events run.are_plain
    (holds (counter secret) (c.confined_code_reaches_its_two_capabilities.ensures.reachable (counter secret) (confined secret)))

pub returns-clause-no_trap : goal.returns-clause-no_trap
returns-clause-no_trap c = λ secret fits. none-traps round (counter secret) (plain secret fits).are_plain
