use Rattle.std.proofs.Common.{sym, ◌∙◌}
use Rattle.std.specs.Prelude.{string_bytes}
use Rattle.policy_audit.specs.Recalled.{recalled}
use Rattle.policy_audit.proofs.Entering.{among_rules, old_rule, other_rule}
use Rattle.policy_audit.proofs.entries.entered.Goals as goal

pub returns-then-is_written : goal.returns-then-is_written
returns-then-is_written g c =
    let rule = string_bytes c.in_ok-rule.rule in
    let among = among_rules string_bytes c.args.entries.now.rules.items c.deref.result.now c.as_str.result.now rule c.is_written.result
    c.deref.ensures.value c.as_str.ensures.value c.is_written.ensures in
    old_rule (recalled c.args.entries.now) c.args.machine.now c.code_of-code.result c.code_of-code.ensures c.is_entered.result
    c.is_entered.ensures c.if-not-is_entered.false rule c.in_ok-rule.ensures (sym among ∙ c.if-is_written.true)

pub returns : goal.returns
returns g c =
    let rule = string_bytes c.in_ok-rule.rule in
    let among = among_rules string_bytes c.args.entries.now.rules.items c.deref.result.now c.as_str.result.now rule c.is_written.result
    c.deref.ensures.value c.as_str.ensures.value c.is_written.ensures in
    other_rule (recalled c.args.entries.now) c.args.machine.now c.code_of-code.result c.code_of-code.ensures c.is_entered.result
    c.is_entered.ensures c.if-not-is_entered.false rule c.in_ok-rule.ensures (sym among ∙ c.if-is_written.false)
