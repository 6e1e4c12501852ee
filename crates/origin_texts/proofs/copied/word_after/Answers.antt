use Rattle.std.proofs.Common.{rules}
use Rattle.hart.specs.Opening.{opening}
use Rattle.origins.proofs.Stays.{place-stays}
use Rattle.origins.specs.declared.place.Place.TheVariants.{Granule}
use Rattle.origin_texts.proofs.copied.word_after.Goals as goal

pub load_granule-word-requires : goal.load_granule-word-requires
load_granule-word-requires c = (
  search rules,
  place-stays (opening c.args.past.now.image) c.in_ok-machine.machine c.in_ok-machine.ensures.size (Granule c.args.granule) c.requires,
)
