use Rattle.std.proofs.lemmas.Bool.{OnTrue_from, eqb-true}
use Rattle.tag_planes.proofs.Blocks.{block_of_zeros}
use Rattle.tag_planes.proofs.words.are_zero.Goals as goal

pub returns : goal.returns
returns c = OnTrue_from _ _ (λ none. block_of_zeros c.args.start 8 c.args.words.now c.requires (eqb-true _ _ none))
