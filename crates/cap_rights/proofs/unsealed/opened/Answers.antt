use Rattle.std.proofs.Common.{◌≡◌, true, lit<, sym, ap, ◌∙◌}
use Rattle.cap_format.specs.Word.{with_field}
use Rattle.cap_bounds.specs.CapValue.{is_tagged, value_of}
use Rattle.cap_rights.specs.Opened.{opened}
use Rattle.cap_rights.specs.OpenedLaws.{with_type-well_formed, value_of-with_type}
use Rattle.cap_rights.proofs.unsealed.opened.Goals as goal

pub from_word-requires : goal.from_word-requires
from_word-requires g c = λ tagged.
    let v = g.C.CapRep.value c.args.c in
    let t : is_tagged v ≡ true = sym c.tag.ensures ∙ tagged in
    rw (c.with_otype.ensures, c.word.ensures.value) (with_type-well_formed v 0x3_ffff (g.met.C.CapRep.valid c.args.c) (lit< tt) t)

pub returns : goal.returns
unfolding opened
returns g c =
    let v = g.C.CapRep.value c.args.c in
    c.from_word.ensures
    ∙ ap (λ w. value_of w c.tag.result) (c.with_otype.ensures ∙ ap (λ w. with_field w 91 18 0x3_ffff) c.word.ensures.value)
    ∙ ap (value_of _) c.tag.ensures
    ∙ value_of-with_type v 0x3_ffff (g.met.C.CapRep.valid c.args.c) (lit< tt)
