use Rattle.cap_format.specs.Word.{address_of}
use Rattle.cap_bounds.specs.Mantissa.{exponent_of, base_mantissa}
use Rattle.cap_bounds.specs.Window.{base_of_word}
use Rattle.cap_bounds.specs.MantissaLaws.{base_mantissa-below}
use Rattle.cap_bounds.specs.BaseLaws.{is_in_window-own}
use Rattle.cap_bounds.proofs.laws.every_address_lies_in_its_window.Goals as goal

pub returns : goal.returns
unfolding base_of_word
returns c word fits = is_in_window-own (exponent_of word) (base_mantissa word) (address_of word) (base_mantissa-below word)
