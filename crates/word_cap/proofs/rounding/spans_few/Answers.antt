use Rattle.std.proofs.Common.{◌+◌}
use Rattle.word_cap.proofs.Granules.{spans_few-is}
use Rattle.word_cap.proofs.rounding.spans_few.Goals as goal

pub returns : goal.returns
returns c =
    spans_few-is c.args.e c.args.address
    (c.args.address + c.args.length) c.granules_below_end.result c.requires.exponent c.ranges.address.fits c.granules_below_end.ensures
    c.requires.low c.requires.high
