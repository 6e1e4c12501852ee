use Rattle.std.proofs.Common.{◌+◌, ◌&&◌, leb, sym, ap, ◌∙◌}
use Rattle.std.proofs.lemmas.Bool.{not-true, not-false, eq-eqb, ne_eqb}
use Rattle.cap_bounds.specs.CapValue.{value_of}
use Rattle.cap_bounds.specs.Window.{base_of_word, top_of_word}
use Rattle.cap_bounds.specs.SetBounds.{may_bound}
use Rattle.word_cap.proofs.Requests.{may_bound-data, may_bound-sealed, may_bound-unsealed}
use Rattle.word_cap.proofs.set_bounds.may_bound.Goals as goal

pub returns-then-not-c : goal.returns-then-not-c
returns-then-not-c c =
    sym (ap (λ tag. may_bound (value_of c.args.c.word tag) c.args.length) (not-true c.args.c.tag c.if-not-c.true)
    ∙ may_bound-data c.args.c.word c.args.length)

pub returns-then-otype-ne-UNSEALED : goal.returns-then-otype-ne-UNSEALED
returns-then-otype-ne-UNSEALED c =
    let sealed = ne_eqb _ 0x3_ffff (λ unsealed. c.if-otype-ne-UNSEALED.true (c.otype.ensures ∙ unsealed)) in
    sym (ap (λ tag. may_bound (value_of c.args.c.word tag) c.args.length) (not-false c.args.c.tag c.if-not-c.false)
    ∙ may_bound-sealed c.args.c.word c.args.length sealed)

pub returns : goal.returns
returns c =
    let unsealed = eq-eqb _ 0x3_ffff (sym c.otype.ensures ∙ c.if-otype-ne-UNSEALED.false) in
    c.bounds_hold.ensures
    ∙ ap (λ n. leb (base_of_word c.args.c.word) n && leb (n + c.args.length) (top_of_word c.args.c.word)) c.address.ensures
    ∙ sym (ap (λ tag. may_bound (value_of c.args.c.word tag) c.args.length) (not-false c.args.c.tag c.if-not-c.false)
    ∙ may_bound-unsealed c.args.c.word c.args.length unsealed)
