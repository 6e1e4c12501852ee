use Rattle.std.proofs.Common.{◌+◌, ◌++◌, ◌∷◌, [], get_or, take, sym, subst}
use Rattle.std.proofs.lemmas.List.{take_more}
use Rattle.policy_audit.specs.Lines.{AreLinesOf}
use Rattle.policy_audit.proofs.Lines.{one-more}
use Rattle.policy_audit.proofs.rules.rule_lines.Goals as goal

pub loop-number-preserved : goal.loop-number-preserved
loop-number-preserved c =
    let text = c.args.text.now in
    let numbers = c.args.numbers.now in
    let done = c.loop-number.number-index in
    let lines = c.loop-number.lines.items in
    let line = c.rule_line.result in
    let more = take_more numbers done 0 c.loop-number-test.true in
    subst (AreLinesOf text (take (done + 1) numbers)) (sym c.in_ok-push.ensures.items)
    (subst (λ ns. AreLinesOf text ns (lines ++ line ∷ [])) (sym more)
    (one-more text (take done numbers) lines (get_or numbers done 0) line c.loop-number.invariant
    (c.rule_line.ensures.number, c.rule_line.ensures.text)))
