use Rattle.std.proofs.Common.{◌-◌, add-zero, sym, ◌∙◌}
use Rattle.std.proofs.lemmas.Bool.{ltb-true, ltb-false}
use Rattle.std.specs.Int.{leading_zeros, w64}
use Rattle.cap_bounds.specs.LengthExponentLaws.{leading_zeros-low, length_exponent-leading, granules_spanned-low, granules_spanned-high}
use Rattle.cap_bounds.specs.LengthExponentLaws.{rounding_exponent-length, rounding_exponent-raised}
use Rattle.word_cap.proofs.rounding.exponent.Goals as goal
use Rattle.word_cap.proofs.rounding.exponent.Goals.{then-spans_few, else-spans_few}

pub overflow_sub-e : goal.overflow_sub-e
overflow_sub-e c = leading_zeros-low c.args.length c.requires c.ranges.length.fits

pub spans_few-requires-clause-low : goal.spans_few-requires-clause-low
spans_few-requires-clause-low c =
    granules_spanned-low c.args.address c.args.length (51 - leading_zeros w64 c.args.length)
    (length_exponent-leading c.args.length c.requires c.ranges.length.fits)

pub spans_few-requires-clause-high : goal.spans_few-requires-clause-high
spans_few-requires-clause-high c =
    granules_spanned-high c.args.address c.args.length (51 - leading_zeros w64 c.args.length)
    (length_exponent-leading c.args.length c.requires c.ranges.length.fits)

pub returns-clause-value : goal.returns-clause-value
returns-clause-value c =
    let e = 51 - leading_zeros w64 c.args.length in
    let is = length_exponent-leading c.args.length c.requires c.ranges.length.fits in
    elim c.if-spans_few.branch [
      | then-spans_few w ↦
          let few = ltb-true _ 1024 (sym c.spans_few.ensures ∙ w.if-spans_few.true) in
          rw (w.raise-is, add-zero) (rounding_exponent-length c.args.address c.args.length (51 - leading_zeros w64 c.args.length) is few)
      | else-spans_few w ↦
          let many = ltb-false _ 1024 (sym c.spans_few.ensures ∙ w.if-spans_few.false) in
          rw w.raise-is (rounding_exponent-raised c.args.address c.args.length (51 - leading_zeros w64 c.args.length) is many)
    ]
