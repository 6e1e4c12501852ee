use Rattle.std.proofs.Common.{◌≡◌, ◌+◌, ◌++◌, ◌≤◌, append-nil, refl, ap, sym, ◌∙◌, arith}
use Rattle.std.proofs.Math.Nat.{min-eq_left}
use Rattle.std.proofs.lemmas.Bool.{eqb-false}
use Rattle.std.specs.Prelude.{string_bytes}
use Rattle.policy_audit.specs.Look.{notes_of}
use Rattle.policy_audit.specs.Text.{says_found}
use Rattle.policy_audit.proofs.run.AuditorWatchMachine.before.Goals as goal

pub returns-clause-ok : goal.returns-clause-ok
returns-clause-ok g c = λ on.
    let w = c.args.self.now in
    let report = w.report in
    let found = says_found report.json report.symbols.now report.lines.now (notes_of w.audit.now) (w.steps + 1) c.args.machine.now in
    let apart : w.steps ≡ 18446744073709551615 → ⊥ = eqb-false w.steps 18446744073709551615 on in
    let few : w.steps + 1 ≤ 18446744073709551615 = omega (arith, apart) in
    let one = c.saturating_add-number.ensures ∙ min-eq_left few in
    let seen = c.pass.ensures.seen ∙ c.in_ok-tell.ensures.seen in
    let now = rw (c.tell.ensures.said, c.tell.ensures.rules) at c.in_ok-pass.ensures.rules in
    let text = rw one at c.in_ok-tell.ensures.text in (
      (rw (seen, now) refl, text ∙ ap (λ t. string_bytes w.text.now ++ t) (sym (append-nil found))),
      one,
      c.pass.ensures.said ∙ c.tell.ensures.said,
      refl,
      refl,
      refl,
    )
