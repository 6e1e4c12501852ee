use Rattle.std.proofs.Common.{arith, rules}
use Rattle.std.specs.Prelude.{option_copied}
use Rattle.hart.specs.Opening.{opening}
use Rattle.origins.proofs.Stays.{place-stays}
use Rattle.origins.specs.declared.place.Place.TheVariants.{Granule}
use Rattle.origins.specs.declared.search.Sought.TheVariants.{Lost}
use Rattle.origin_texts.proofs.Facts.{early, there_now}
use Rattle.origin_texts.proofs.lost.append_store.Goals as goal

pub tell-requires : goal.tell-requires
tell-requires c =
    let past = c.args.past.now in
    let replay = option_copied c.args.replay in
    let machine = c.in_ok-machine.machine in
    let found = c.args.found in
    let place = Granule c.args.granule in
    let it = c.requires.lost in
    let few = early Lost place it.0 past replay found it.2 in
    let there = there_now Lost place it.0 past replay found it.2 machine c.in_ok-machine.ensures.machine in (
      search rules,
      (
        omega (arith, few, it.1, c.count-count.ensures.value, c.count-count.type_inv),
        (place-stays (opening past.image) machine c.in_ok-machine.ensures.size place c.requires.there, there),
      ),
    )
