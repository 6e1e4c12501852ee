use Rattle.std.proofs.Common.{false, refl, ◌∙◌, arith}
use Rattle.cap_bounds.specs.RootLaws.{IsWordWellFormed-root, decoded-root}
use Rattle.bounds_text.proofs.request.root_at.Goals as goal

pub from_word-requires : goal.from_word-requires
from_word-requires g c =
    λ _. rw (c.with_address.ensures, c.with_flag.ensures) (IsWordWellFormed-root c.args.address false (omega arith))

pub returns : goal.returns
returns g c =
    c.from_word.ensures
    ∙ rw (c.with_address.ensures, c.with_flag.ensures, decoded-root c.args.address false (omega arith)) refl
