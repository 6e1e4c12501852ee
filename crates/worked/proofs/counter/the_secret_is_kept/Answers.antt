use Rattle.worked.specs.Counter.{counter, round, two_capabilities}
use Rattle.worked.proofs.counter.the_secret_is_kept.Goals as goal

pub returns-clause-kept : goal.returns-clause-kept
returns-clause-kept c = λ secret fits.
    c.what_no_member_opens_stays.ensures.bytes round (counter secret) two_capabilities 0x8000_0400 1
    (c.the_counter_keeps_its_rule.ensures.reach secret) (c.the_counter_is_confined.ensures.plain secret fits)
    c.neither_opens_the_secret.ensures.store

pub returns-clause-hidden : goal.returns-clause-hidden
returns-clause-hidden c = λ secret other fits.
    c.what_no_member_reads_is_not_learned.ensures round (counter secret) (counter other) two_capabilities 0x8000_0400 1
    (c.the_counter_keeps_its_rule.ensures.reach secret) (c.the_counter_is_confined.ensures.plain secret fits)
    c.neither_opens_the_secret.ensures.load c.neither_opens_the_secret.ensures.execute
    (c.neither_opens_the_secret.ensures.differs secret other)
