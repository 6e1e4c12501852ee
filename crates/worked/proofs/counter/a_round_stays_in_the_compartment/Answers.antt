use Rattle.std.proofs.Common.{[], ◌∷◌, arith, refl}
use Rattle.worked.specs.Counter.{counter, counter_rule, round}
use Rattle.worked.proofs.counter.a_round_stays_in_the_compartment.Goals as goal

pub returns-clause-reaches : goal.returns-clause-reaches
unfolding counter
returns-clause-reaches c = λ secret.
    c.confined_code_reaches_its_two_capabilities.ensures.reachable (counter secret) (c.the_counter_is_confined.ensures.confined secret)

pub returns-clause-rights : goal.returns-clause-rights
returns-clause-rights c = λ secret v fits.
    c.confined_runs_stay_confined.ensures.rights round (counter secret) (c.the_counter_is_confined.ensures.plain secret fits)
    (c.the_counter_is_confined.ensures.confined secret) v

pub returns-clause-stays : goal.returns-clause-stays
returns-clause-stays c = λ secret fits.
    c.confined_runs_stay_confined.ensures.stays round (counter secret) (c.the_counter_is_confined.ensures.plain secret fits)
    (c.the_counter_is_confined.ensures.confined secret)

pub returns-clause-silent : goal.returns-clause-silent
returns-clause-silent c = λ secret fits.
    c.confined_runs_stay_confined.ensures.silent round (counter secret) (c.the_counter_is_confined.ensures.plain secret fits)
    (c.the_counter_is_confined.ensures.confined secret)

pub returns-clause-two_worlds : goal.returns-clause-two_worlds
returns-clause-two_worlds c = λ secret other fits.
    c.confined_runs_stay_confined.ensures.two_worlds round (counter secret) (counter other)
    (c.the_counter_is_confined.ensures.plain secret fits) (c.the_counter_is_confined.ensures.confined secret)
    (c.the_counter_keeps_its_rule.ensures.looks secret other)

pub returns-clause-secrets : goal.returns-clause-secrets
returns-clause-secrets c = λ secret other fits.
    c.runs_keep_to_a_rule.ensures.same_state (counter_rule ∷ []) counter_rule round 4 (counter secret) (counter other) (omega arith)
    (c.the_counter_keeps_its_rule.ensures.keeps secret fits) (0, omega arith, refl) (c.the_counter_keeps_its_rule.ensures.applies secret)
    (c.the_counter_keeps_its_rule.ensures.differs secret other)
