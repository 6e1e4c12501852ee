use Rattle.word_cap.proofs.Windows.{window_number-base}
use Rattle.word_cap.proofs.decoding.window.Goals as goal

pub returns-clause-base : goal.returns-clause-base
returns-clause-base c = window_number-base c.args.e c.args.b c.args.address c.requires.exponent c.requires.mantissa c.ranges.address.fits
