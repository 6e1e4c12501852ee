use Rattle.std.proofs.Common.{inl, inr, sym, ap, ◌∙◌}
use Rattle.std.proofs.lemmas.Bool.{not-true, not-false, ne_eqb, cases_Bool, iff_false}
use Rattle.cap_format.specs.Word.{with_address_of}
use Rattle.cap_bounds.specs.CapValue.{value_of}
use Rattle.cap_bounds.specs.SetAddress.{at_address}
use Rattle.word_cap.proofs.Moves.{IsWordWellFormed-moved, at_address-kept, at_address-lost, at_address-sealed_word, at_address-data}
use Rattle.word_cap.proofs.window.keeps_tag.Goals as goal

pub returns-then-not-c-clause-value : goal.returns-then-not-c-clause-value
returns-then-not-c-clause-value c =
    ap (λ tag. at_address (value_of c.args.c.word tag) c.args.address) (not-true c.args.c.tag c.if-not-c.true)
    ∙ at_address-data c.args.c.word c.args.address

pub returns-then-otype-ne-UNSEALED-clause-value : goal.returns-then-otype-ne-UNSEALED-clause-value
returns-then-otype-ne-UNSEALED-clause-value c =
    let tagged = not-false c.args.c.tag c.if-not-c.false in
    let sealed = ne_eqb _ 0x3_ffff (λ unsealed. c.if-otype-ne-UNSEALED.true (c.otype.ensures ∙ unsealed)) in
    ap (λ tag. at_address (value_of c.args.c.word tag) c.args.address) tagged
    ∙ at_address-sealed_word c.args.c.word c.args.address (c.args.c.well_formed tagged) sealed

pub returns-clause-value : goal.returns-clause-value
returns-clause-value c =
    let word = c.args.c.word in
    let address = c.args.address in
    let tagged = not-false c.args.c.tag c.if-not-c.false in
    let well = c.args.c.well_formed tagged in
    let unsealed = sym c.otype.ensures ∙ c.if-otype-ne-UNSEALED.false in
    let as_tagged = ap (λ tag. at_address (value_of c.args.c.word tag) c.args.address) tagged in
    elim (cases_Bool c.keeps_bounds.result) [
      | inl kept ↦
          as_tagged
          ∙ at_address-kept word address well c.ranges.address.fits unsealed (c.keeps_bounds.ensures.0 kept)
          ∙ ap (value_of (with_address_of c.args.c.word c.args.address)) (sym kept)
      | inr lost ↦
          as_tagged
          ∙ at_address-lost word address well c.ranges.address.fits (iff_false c.keeps_bounds.ensures lost)
          ∙ ap (value_of (with_address_of c.args.c.word c.args.address)) (sym lost)
    ]

pub returns-clause-well_formed : goal.returns-clause-well_formed
returns-clause-well_formed c kept =
    let tagged = not-false c.args.c.tag c.if-not-c.false in
    IsWordWellFormed-moved c.args.c.word c.args.address (c.args.c.well_formed tagged) c.ranges.address.fits (c.keeps_bounds.ensures.0 kept)
