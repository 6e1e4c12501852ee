use Rattle.std.proofs.Common.{◌≡◌, ◌^◌, ◌<◌, true, sym, ap, ◌∙◌, arith}
use Rattle.cap_format.specs.Word.{with_field}
use Rattle.cap_bounds.specs.CapValue.{is_tagged, value_of}
use Rattle.cap_rights.specs.FieldLaws.{with_perms-well_formed, value_of-with_perms}
use Rattle.cap_rights.proofs.fields.with_perms.Goals as goal

pub from_word-requires : goal.from_word-requires
from_word-requires g c = λ tagged.
    let v = g.C.CapRep.value c.args.c in
    let t : is_tagged v ≡ true = sym c.tag.ensures ∙ tagged in
    let fits : c.args.perms < 2 ^ 16 = omega arith in
    rw (c.with_perms.ensures, c.word.ensures.value) (with_perms-well_formed v c.args.perms (g.met.C.CapRep.valid c.args.c) fits t)

pub returns : goal.returns
returns g c =
    let v = g.C.CapRep.value c.args.c in
    let fits : c.args.perms < 2 ^ 16 = omega arith in
    c.from_word.ensures
    ∙ ap (λ w. value_of w c.tag.result) (c.with_perms.ensures ∙ ap (λ w. with_field w 112 16 c.args.perms) c.word.ensures.value)
    ∙ ap (value_of _) c.tag.ensures
    ∙ value_of-with_perms v c.args.perms (g.met.C.CapRep.valid c.args.c) fits
