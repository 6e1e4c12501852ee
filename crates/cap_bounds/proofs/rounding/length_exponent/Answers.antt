use Rattle.std.proofs.Common.{◌-◌, add-zero}
use Rattle.std.specs.Int.{leading_zeros, w64}
use Rattle.cap_bounds.specs.LengthExponentLaws.{leading_zeros-low, length_exponent-leading, rounding_exponent-few, rounding_exponent-many}
use Rattle.cap_bounds.proofs.rounding.length_exponent.Goals as goal
use Rattle.cap_bounds.proofs.rounding.length_exponent.Goals.{then-granules-lt1024, else-granules-lt1024}

pub overflow_sub-e : goal.overflow_sub-e
overflow_sub-e c = leading_zeros-low c.args.length c.requires c.ranges.length.fits

pub returns-clause-value : goal.returns-clause-value
returns-clause-value c =
    let is = length_exponent-leading c.args.length c.requires c.ranges.length.fits in
    elim c.if-granules-lt1024.branch [
      | then-granules-lt1024 w ↦ rw (w.raise-is, add-zero)
          (rounding_exponent-few c.args.length (51 - leading_zeros w64 c.args.length) is w.if-granules-lt1024.true)
      | else-granules-lt1024 w ↦ rw w.raise-is
          (rounding_exponent-many c.args.length (51 - leading_zeros w64 c.args.length) is w.if-granules-lt1024.false)
    ]
