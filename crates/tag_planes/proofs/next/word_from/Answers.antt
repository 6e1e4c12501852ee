use Rattle.std.proofs.Common.{◌≡◌, drop, ap, ◌∙◌, arith}
use Rattle.std.proofs.lemmas.List.{take_rest}
use Rattle.tag_planes.proofs.Blocks.{first_set}
use Rattle.tag_planes.proofs.NextTag.{later_within}
use Rattle.tag_planes.proofs.next.word_from.Goals as goal

pub overflow_add-result : goal.overflow_add-result
overflow_add-result c =
    let found : c.first_word.result ≡ first_set (drop c.args.start c.args.planes.now) =
    c.first_word.ensures ∙ ap first_set (take_rest c.args.planes.now c.args.start) in
    record { fits = omega (arith, found, later_within c.args.planes.now c.args.start c.requires) }

pub returns-clause-within : goal.returns-clause-within
returns-clause-within c =
    let found : c.first_word.result ≡ first_set (drop c.args.start c.args.planes.now) =
    c.first_word.ensures ∙ ap first_set (take_rest c.args.planes.now c.args.start) in
    omega (arith, found, later_within c.args.planes.now c.args.start c.requires)
