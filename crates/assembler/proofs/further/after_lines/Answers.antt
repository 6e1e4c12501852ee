use Rattle.std.proofs.Common.{◌≡◌, ℕ, ◌+◌, ◌-◌, ◌<◌, List, drop, ◌∙◌, sym, arith}
use Rattle.std.proofs.lemmas.List.{drop-drop}
use Rattle.asm_lines.specs.Line.{Line}
use Rattle.assembler.proofs.further.after_lines.Goals as goal

one_less : (lines rest : List Line) (count counter : ℕ) → counter < count → rest ≡ drop 1 lines
    → drop (count - counter) lines ≡ drop (count - (counter + 1)) rest
one_less lines rest count counter small is =
    let one : count - counter ≡ 1 + (count - (counter + 1)) = omega arith in
    rw (one, is) (sym (drop-drop (count - (counter + 1)) 1 lines))

pub loop-preserved : goal.loop-preserved
loop-preserved c =
    let so_far = c.loop.invariant in
    record {
      lines = so_far.lines ∙ one_less _ _ _ _ c.loop-test.true c.in_ok-rest.ensures.lines;
      shorter = omega (arith, so_far.shorter, c.in_ok-rest.ensures.shorter);
    }
