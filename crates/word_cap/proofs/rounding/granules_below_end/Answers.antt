use Rattle.word_cap.proofs.Granules.{granules_below_end-is}
use Rattle.word_cap.proofs.rounding.granules_below_end.Goals as goal

pub returns : goal.returns
returns c = granules_below_end-is c.args.e c.args.address c.args.length c.granule_mask.result c.requires c.granule_mask.ensures.value
