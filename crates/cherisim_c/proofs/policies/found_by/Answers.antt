use Rattle.std.proofs.Common.{◌∙◌, ap, subst}
use Rattle.policy.specs.Terms.{terms_of}
use Rattle.cherisim_c.specs.Policies.{c_breach, Stops}
use Rattle.cherisim_c.proofs.policies.found_by.Goals as goal

pub returns-in-Ok : goal.returns-in-Ok
returns-in-Ok c =
    let found = c.in-Ok.found in
    let rules = subst (λ rs. Stops (terms_of rs) c.args.schedule c.args.input.now c.args.machine.now found) c.deref.ensures.value
    c.in-Ok.ensures in
    (found, rules, c.breach_of.ensures ∙ ap (λ lines. c_breach lines found) c.deref-in-Ok.ensures.value)
