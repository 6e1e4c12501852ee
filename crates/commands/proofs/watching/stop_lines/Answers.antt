use Rattle.std.proofs.Common.{◌≡◌, ◌∙◌, ◌<◌, ◌-◌, get_or, ap, subst}
use Rattle.std.specs.Prelude.{IsUtf8}
use Rattle.policy_text.specs.Policy.{line_text}
use Rattle.commands.specs.Watching.{refused_by}
use Rattle.commands.proofs.Policies.{same-element}
use Rattle.commands.proofs.watching.stop_lines.Goals as goal

pub returns-in-Ok-clause-told : goal.returns-in-Ok-clause-told
returns-in-Ok-clause-told c = λ _.
    let policy = c.args.rules.now.policy in
    let refused = c.args.breach.refused in
    let rule = c.rule_line-rule.result.text.now in
    let inside = subst (λ n. refused.rule < n) policy.lines.ok.0 c.requires.rule in
    let number : c.index-number.result.now ≡ get_or policy.lines.items refused.rule 1 =
    c.index-number.ensures ∙ same-element policy.lines.items refused.rule c.index-number.result.now 1 inside in
    let by_number = subst (λ n. IsUtf8 (line_text c.deref.result.now n) → rule ≡ line_text c.deref.result.now n) number
    c.rule_line-rule.ensures.text in (
      rule,
      subst (λ t. IsUtf8 (line_text t (get_or policy.lines.items refused.rule 1))
          → rule ≡ line_text t (get_or policy.lines.items refused.rule 1))
          c.deref.ensures.value by_number,
      c.in-Ok.ensures
          ∙ ap
          (λ n. refused_by c.args.run.now.request.json c.args.run.now.table n rule refused (c.args.breach.number - 1) c.args.machine.now)
          (c.rule_line-rule.ensures.number ∙ number),
    )
