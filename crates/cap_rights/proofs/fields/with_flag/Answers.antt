use Rattle.std.proofs.Common.{◌≡◌, true, sym, ap, ◌∙◌}
use Rattle.base.specs.Bits.{bit}
use Rattle.cap_format.specs.Word.{with_field}
use Rattle.cap_bounds.specs.CapValue.{is_tagged, value_of}
use Rattle.cap_rights.specs.FieldLaws.{with_flag-well_formed, value_of-with_flag}
use Rattle.cap_rights.proofs.fields.with_flag.Goals as goal

pub from_word-requires : goal.from_word-requires
from_word-requires g c = λ tagged.
    let v = g.C.CapRep.value c.args.c in
    let t : is_tagged v ≡ true = sym c.tag.ensures ∙ tagged in
    rw (c.with_flag.ensures, c.word.ensures.value) (with_flag-well_formed v c.args.flag (g.met.C.CapRep.valid c.args.c) t)

pub returns : goal.returns
returns g c =
    let v = g.C.CapRep.value c.args.c in
    c.from_word.ensures
    ∙ ap (λ w. value_of w c.tag.result) (c.with_flag.ensures ∙ ap (λ w. with_field w 109 1 (bit c.args.flag)) c.word.ensures.value)
    ∙ ap (value_of _) c.tag.ensures
    ∙ value_of-with_flag v c.args.flag (g.met.C.CapRep.valid c.args.c)
