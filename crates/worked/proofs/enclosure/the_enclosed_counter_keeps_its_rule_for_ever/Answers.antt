use Rattle.std.proofs.Common.{refl}
use Rattle.worked.specs.Enclosure.{enclosed_counter}
use Rattle.worked.proofs.Enclosing.{encloses, enclosed, enclosed-state, keeps-rules, secret-stays}
use Rattle.worked.specs.Counter.{counter_rule}
use Rattle.machine.specs.Run.{run_after}
use Rattle.std.specs.Prelude.{◌∷◌, []}
use Rattle.worked.proofs.enclosure.the_enclosed_counter_keeps_its_rule_for_ever.Goals as goal

pub returns-clause-encloses : goal.returns-clause-encloses
returns-clause-encloses c = encloses

pub returns-clause-enclosed : goal.returns-clause-enclosed
returns-clause-enclosed c = enclosed

pub returns-clause-rules : goal.returns-clause-rules
returns-clause-rules c = keeps-rules

pub returns-clause-secret : goal.returns-clause-secret
returns-clause-secret c = λ secret events fits are.
    let s = enclosed_counter secret in
    secret-stays s (run_after events s)
    (c.enclosed_code_stays_enclosed.ensures.left_alone s s events encloses are (enclosed-state secret fits) (enclosed secret))

pub returns-clause-keeps : goal.returns-clause-keeps
returns-clause-keeps c = λ secret events fits are.
    let s = enclosed_counter secret in
    c.enclosed_code_stays_enclosed.ensures.rules s s (counter_rule ∷ []) events encloses refl keeps-rules are
    (enclosed-state secret fits) (enclosed secret)
