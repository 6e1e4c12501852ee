use Rattle.std.proofs.Common.{⊎_elim, ap, length, sym, ◌∙◌, arith}
use Rattle.std.proofs.lemmas.Bool.{eqb-true}
use Rattle.policy_audit.specs.Look.{seen_by}
use Rattle.policy_audit.proofs.run.audit_run.Goals as goal

pub returns-in-Done-clause-state : goal.returns-in-Done-clause-state
returns-in-Done-clause-state g c =
    ⊎_elim (λ is. (rw is at c.walk_whole-how.ensures.whole).0.state) (λ is. (rw is at c.walk_whole-how.ensures.whole).0.state)
    c.in-Done.is

pub returns-in-Done-clause-text : goal.returns-in-Done-clause-text
returns-in-Done-clause-text g c =
    let told = ⊎_elim (λ is. (rw is at c.walk_whole-how.ensures.whole).0.told) (λ is. (rw is at c.walk_whole-how.ensures.whole).0.told)
    c.in-Done.is in
    rw (c.text-1.given.1 (sym told.4)) (rw (c.in_ok-audit.ensures.notes, c.in_ok-audit.ensures.said) at told.0.1)

pub returns-in-Done-clause-count : goal.returns-in-Done-clause-count
returns-in-Done-clause-count g c =
    let told = ⊎_elim (λ is. (rw is at c.walk_whole-how.ensures.whole).0.told) (λ is. (rw is at c.walk_whole-how.ensures.whole).0.told)
    c.in-Done.is in
    let notes = rw (c.in_ok-audit.ensures.notes, c.in_ok-audit.ensures.said) at told.0.0 in
    c.count.ensures ∙ ap (λ audit. length (seen_by audit)) (c.audit-3-1.given.1 (sym told.5)) ∙ ap (λ n. length n.seen) notes

pub unreachable-requires : goal.unreachable-requires
unreachable-requires g c =
    let met = rw c.in-Stopped.is at c.walk_whole-how.ensures.whole in
    let last = eqb-true c.walk_whole-how.new.watch.steps 18446744073709551615 met.2 in
    let counted = met.0.met.told.1 in
    let steps = met.0.met.steps in
    let few = met.0.few in
    let most = c.requires.range.steps in
    absurd (omega (arith, last, counted, steps, few, most))
