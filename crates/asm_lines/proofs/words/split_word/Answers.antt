use Rattle.std.proofs.Common.{ap, sym, ◌∙◌, drop, refl, arith}
use Rattle.std.proofs.lemmas.Bool.Decides.{nat_tests}
use Rattle.asm_lines.proofs.Cut.{found_word}
use Rattle.asm_lines.proofs.words.split_word.Goals as goal

pub returns : goal.returns
returns c =
    let t = c.from-text.result.now in
    let cut =
    found_word c.args.line.now t (c.from-text.ensures ∙ ap (λ n. drop n c.args.line.now) c.run_length.ensures.value)
    (grind (arith, nat_tests)) in
    cut ∙ sym (rw (c.before-2.ensures, c.from.ensures, c.run_length-end.ensures.value) refl)
