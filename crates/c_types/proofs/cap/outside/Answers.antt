use Rattle.std.proofs.Common.{◌≡◌, ap, ◌∙◌}
use Rattle.cap_bounds.specs.CapValue.{is_tagged, word_of, value_of}
use Rattle.cap_bounds.specs.RecordLaws.{value_of-word_of}
use Rattle.c_types.proofs.cap.outside.Goals as goal

-- a sound value is what its word and its tag stand for
pub returns : goal.returns
returns g c =
    let v = g.C.CapRep.value c.args.cap in
    ap (λ w. value_of w c.tag.result) (c.halves_of-word.ensures ∙ c.word.ensures.value) ∙ ap (value_of (word_of v)) c.tag.ensures
    ∙ value_of-word_of v (g.met.C.CapRep.valid c.args.cap)
