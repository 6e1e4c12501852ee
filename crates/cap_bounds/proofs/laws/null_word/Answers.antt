use Rattle.std.proofs.Common.{refl}
use Rattle.cap_bounds.specs.Mantissa.{exponent_of, base_mantissa, low_top_mantissa, top_mantissa, length_mantissa}
use Rattle.cap_bounds.specs.Window.{place_in_window, decoded_base, decoded_top, base_of_word, top_of_word}
use Rattle.cap_bounds.specs.Record.{decoded}
use Rattle.cap_bounds.proofs.laws.null_word.Goals as goal

pub returns : goal.returns
unfolding decoded base_of_word top_of_word place_in_window decoded_base decoded_top exponent_of base_mantissa length_mantissa top_mantissa
    low_top_mantissa
returns c = refl
