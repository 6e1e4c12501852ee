use Rattle.std.proofs.Common.{cond, eqb, ap, sym, ◌∙◌}
use Rattle.tag_planes.specs.Planes.{tag_at}
use Rattle.tag_planes.proofs.TagBits.{tag_at-tagged}
use Rattle.tag_planes.proofs.granule.put_tag.Goals as goal

pub returns-then-tag-clause-value : goal.returns-then-tag-clause-value
returns-then-tag-clause-value c = λ k.
    tag_at-tagged c.args.planes.now c.args.granule k c.requires
    ∙ ap (λ tag. cond (eqb k c.args.granule) tag (tag_at c.args.planes.now k)) (sym c.if-tag.true)
