use Rattle.std.proofs.Common.{◌≡◌, ◌^◌, leb, sym, ap, ◌∙◌}
use Rattle.std.proofs.lemmas.Bool.{eqb-true, eqb-false}
use Rattle.cap_bounds.specs.Window.{top_of_word}
use Rattle.word_cap.proofs.Holds.{top-decoded}
use Rattle.word_cap.proofs.JoinedFields.{reserved-well_formed}
use Rattle.word_cap.proofs.WellFormedWords.{well_formed-narrow}
use Rattle.word_cap.proofs.well_formed.is_well_formed.Goals as goal

pub returns-then-not-reserved_are_clear : goal.returns-then-not-reserved_are_clear
returns-then-not-reserved_are_clear c =
    let some = c.if-not-reserved_are_clear.true in (
      λ t. absurd cc,
      λ well. absurd (eqb-false _ 0 (sym c.reserved_are_clear.ensures.value ∙ some) (reserved-well_formed c.args.word well)),
    )

pub returns : goal.returns
returns c =
    let clear = eqb-true _ 0 (sym c.reserved_are_clear.ensures.value ∙ c.if-not-reserved_are_clear.false) in
    let m = c.mantissas_of-mantissas.result in
    let found = c.mantissas_of-mantissas.ensures in
    let low = c.if-mantissas-gt50.false in
    let top =
    top-decoded c.args.word c.address.result m.exponent m.base m.length c.base_at-base.result found.exponent found.base found.length
    c.address.ensures c.base_at-base.ensures low found.length_range in
    let test : c.ends_in_space.result ≡ leb (top_of_word c.args.word) (2 ^ 64) =
    c.ends_in_space.ensures ∙ ap (λ n. leb n (2 ^ 64)) (sym top) in
    rw test (well_formed-narrow c.args.word (rw found.exponent at low) c.reserved_are_clear.ensures.range clear)
