use Rattle.std.proofs.Common.{◌+◌, ◌≤◌, not, eqb, length, ap, ◌∙◌, arith}
use Rattle.std.proofs.lemmas.Bool.{OnTrue_at}
use Rattle.std.proofs.lemmas.List.{take_rest}
use Rattle.std.proofs.lemmas.List.Sums.{prefix_len-le-length}
use Rattle.tag_planes.proofs.Blocks.{first_set, past_block}
use Rattle.tag_planes.proofs.words.first_word.Goals as goal

pub loop-start-preserved : goal.loop-start-preserved
loop-start-preserved c =
    let room : c.loop-start.start + 8 ≤ length c.args.words.now = omega arith in
    let past = past_block c.loop-start.start 8 c.args.words.now room (OnTrue_at c.if-are_zero.true c.are_zero.ensures) in
    (omega (arith, c.loop-start.invariant.0, past), room)

pub overflow_add-result : goal.overflow_add-result
overflow_add-result c =
    let whole = prefix_len-le-length (λ word. not (not (eqb word 0))) c.args.words.now in
    record {
      fits = omega (
        arith,
        c.loop-start.invariant.0,
        c.first_of_few.ensures ∙
            ap first_set (take_rest c.args.words.now c.loop-start.start),
        whole,
      );
    }
