use Rattle.std.proofs.Common.{arith, rules, ◌-◌, ◌+◌, ◌++◌, ℕ, List, length, ap, ◌∙◌}
use Rattle.std.proofs.lemmas.Result.{err_from_is_err_and}
use Rattle.std.proofs.KnownBytes.{Consumes-trans}
use Rattle.image.specs.Grammar.{section_at, section_end}
use Rattle.image.proofs.Going.{Goes-begins, Goes-on, Goes-stops, Goes-ends}
use Rattle.image.proofs.reading.sections.Goals as goal

pub loop-init : goal.loop-init
loop-init g c = record {
  count = search rules;
  read = rw c.new-sections.ensures.items (Goes-begins (section_at c.args.pages) section_end c.args.count _ _ (omega arith));
}

pub returns-in_err-section-clause-part : goal.returns-in_err-section-clause-part
returns-in_err-section-clause-part g c =
    let p = err_from_is_err_and c.from_residual.result c.from_residual.ensures.1 in
    rw (p.1, p.2)
    (Goes-stops (section_at c.args.pages) section_end c.args.count (c.args.count - c.loop.counter)
    (c.args.count - (c.loop.counter + 1)) c.loop.free c.loop.sections.items (omega arith) _ _ _ _ c.loop.invariant.read
    c.in_err-section.ensures.part)

pub loop-preserved : goal.loop-preserved
loop-preserved g c = record {
  count = search rules;
  read = rw c.in_ok-push.ensures.items
      (Goes-on (section_at c.args.pages) section_end c.args.count (c.args.count - c.loop.counter)
      (c.args.count - (c.loop.counter + 1)) c.loop.free c.loop.sections.items (omega arith) _ _ _ _ c.in_ok-section.section
      (ap (λ n. n + length c.bytes.result.now) c.address.ensures
      ∙ ap (λ (b : List ℕ). c.in_ok-section.section.address + length b) c.bytes.ensures) c.loop.invariant.read
      c.in_ok-section.ensures.part);
}

pub returns-clause-part : goal.returns-clause-part
returns-clause-part g c =
    Goes-ends (section_at c.args.pages) section_end c.args.count (c.args.count - c.loop.counter) c.loop.free c.loop.sections.items _ _
    (omega arith) c.loop.invariant.read

pub returns-in_err-push-clause-part : goal.returns-in_err-push-clause-part
returns-in_err-push-clause-part g c =
    let p = err_from_is_err_and c.from_residual-in_err-push.result c.from_residual-in_err-push.ensures.1 in
    let before = c.loop.invariant.read in
    let here = c.in_ok-section.ensures.part in
    rw (p.1, p.2) ((before.0 ++ here.0, Consumes-trans _ _ _ before.0 here.0 before.1 here.1), λ other. absurd other)
