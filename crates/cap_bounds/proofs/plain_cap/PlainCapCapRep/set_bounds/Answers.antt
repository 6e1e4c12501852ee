use Rattle.cap_bounds.specs.PlainCap.{plain_value, plain_sound}
use Rattle.cap_bounds.specs.SetBoundsLaws.{bounds-with_bounds, within-with_bounds}
use Rattle.cap_bounds.proofs.plain_cap.PlainCapCapRep.set_bounds.Goals as goal

pub returns-clause-bounds : goal.returns-clause-bounds
returns-clause-bounds c =
    rw c.bounded.ensures.value (bounds-with_bounds (plain_value c.args.self) c.args.length (plain_sound c.args.self) c.ranges.length.fits)

pub returns-clause-within : goal.returns-clause-within
returns-clause-within c = rw c.bounded.ensures.value (within-with_bounds (plain_value c.args.self) c.args.length (plain_sound c.args.self))
