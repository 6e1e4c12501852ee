use Rattle.cap_format.specs.Word.{address_of}
use Rattle.cap_bounds.specs.Mantissa.{exponent_of, base_mantissa, length_mantissa}
use Rattle.cap_bounds.specs.MantissaLaws.{length_mantissa-below}
use Rattle.cap_bounds.specs.BaseLaws.{decoded_top-below}
use Rattle.cap_bounds.proofs.decode.top.Goals as goal

pub returns-clause-range : goal.returns-clause-range
returns-clause-range c =
    let w = c.args.word in
    rw (c.top_at.ensures, c.exponent.ensures.value, c.base_bits.ensures.value, c.length_bits.ensures.value, c.address.ensures)
    (decoded_top-below (exponent_of w) (base_mantissa w) (length_mantissa w) (address_of w) (length_mantissa-below w))
