use Rattle.std.proofs.Common.{◌++◌, ap, ◌∙◌}
use Rattle.reached.specs.Links.{values}
use Rattle.policy_audit.specs.Entries.{entry_rule}
use Rattle.policy_audit.proofs.Looking.{values_are}
use Rattle.policy_audit.proofs.entries.rule_of.Goals as goal

pub returns : goal.returns
returns g c =
    let value = g.C.CapRep.value in
    c.in_ok-append_rule.ensures
    ∙ ap (λ t. t ++ entry_rule c.args.code (values value c.in_ok-reach.reach)) c.new-rule.ensures.bytes
    ∙ ap (entry_rule c.args.code)
    (values_are value c.in_ok-reach.reach c.args.machine.now c.hart.result.now c.hart.ensures.value c.in_ok-reach.ensures.members)
