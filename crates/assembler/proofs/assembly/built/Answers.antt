use Rattle.std.proofs.Common.{◌≡◌, None, ap, ◌∙◌, rules, arith}
use Rattle.asm_lines.specs.Seen.{seen_line}
use Rattle.assembler.specs.Faults.{line_fault}
use Rattle.assembler.specs.Left.{lines_left}
use Rattle.assembler.specs.Standing.{before_fault}
use Rattle.assembler.proofs.BuildLemmas.{kept_buildable}
use Rattle.assembler.proofs.StepLemmas.{before-step}
use Rattle.assembler.proofs.assembly.built.Goals as goal

pub loop-rest-preserved : goal.loop-rest-preserved
loop-rest-preserved c =
    let so_far = c.loop-rest.invariant in
    let symbols = c.args.labels in
    let s = c.loop-rest.builder in
    let none : line_fault symbols s (seen_line c.next_line.result.0) ≡ None = cc in
    record {
      fault = search rules;
      built = search rules;
      before =
          so_far.before
          ∙ ap (λ rest. before_fault symbols s (lines_left rest)) c.in-Some.is
          ∙ ap (before_fault symbols s) c.next_line.ensures.lines
          ∙ before-step _ _ _ _ _ none c.in-Ok.ensures.value;
      buildable = kept_buildable _ _ _ _ c.in-Ok.ensures.value so_far.buildable none c.next_line.ensures.paged;
      start = omega arith;
      lines = search rules;
      room = search rules;
    }
