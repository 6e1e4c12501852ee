use Rattle.std.proofs.Common.{◌≡◌, true, sym, ap, ◌∙◌}
use Rattle.cap_format.specs.Word.{with_field}
use Rattle.cap_bounds.specs.CapValue.{is_tagged, word_of, value_of}
use Rattle.cap_rights.specs.OpenedLaws.{with_type-well_formed, value_of-with_type}
use Rattle.cap_rights.proofs.fields.with_type.Goals as goal

pub from_word-requires : goal.from_word-requires
from_word-requires g c = λ tagged.
    let v = g.C.CapRep.value c.args.c in
    let t : is_tagged v ≡ true = sym c.tag.ensures ∙ tagged in
    rw (c.with_otype.ensures, c.word.ensures.value, c.number.ensures.value)
    (with_type-well_formed v c.args.otype (g.met.C.CapRep.valid c.args.c) c.number.ensures.range t)

pub returns : goal.returns
returns g c =
    let v = g.C.CapRep.value c.args.c in
    c.from_word.ensures
    ∙ ap (λ w. value_of w c.tag.result) (c.with_otype.ensures ∙ ap (λ w. with_field w 91 18 c.number.result) c.word.ensures.value)
    ∙ ap (λ t. value_of (with_field (word_of v) 91 18 t) c.tag.result) c.number.ensures.value
    ∙ ap (value_of _) c.tag.ensures
    ∙ value_of-with_type v c.args.otype (g.met.C.CapRep.valid c.args.c) c.number.ensures.range
