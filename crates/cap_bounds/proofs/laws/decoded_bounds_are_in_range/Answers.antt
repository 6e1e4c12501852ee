use Rattle.cap_format.specs.Word.{address_of}
use Rattle.cap_bounds.specs.Mantissa.{exponent_of, base_mantissa, length_mantissa}
use Rattle.cap_bounds.specs.Window.{base_of_word, top_of_word}
use Rattle.cap_bounds.specs.MantissaLaws.{length_mantissa-below}
use Rattle.cap_bounds.specs.BaseLaws.{decoded_base-below, decoded_top-below}
use Rattle.cap_bounds.proofs.laws.decoded_bounds_are_in_range.Goals as goal

pub returns : goal.returns
unfolding base_of_word top_of_word
returns c word = (
  decoded_base-below (exponent_of word) (base_mantissa word) (address_of word),
  decoded_top-below (exponent_of word) (base_mantissa word) (length_mantissa word) (address_of word) (length_mantissa-below word),
)
