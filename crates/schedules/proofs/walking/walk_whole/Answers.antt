use Rattle.std.proofs.Common.{refl}
use Rattle.schedules.proofs.Whole.{whole}
use Rattle.schedules.proofs.walking.walk_whole.Goals as goal

pub returns-clause-whole : goal.returns-clause-whole
returns-clause-whole g c =
    whole g.V.Watch.Saw g.V.Watch.Lost g.V.Watch.Barred g.V.Watch.stops_at c.args.schedule c.args.input.now _ c.walk-how.new.position
    c.args.machine.now
    c.walk-how.new.machine c.args.watch.now c.walk-how.new.watch refl c.requires.running c.walk-how.ensures.done c.walk-how.result
    c.walk-how.ensures.walked c.walk-how.ensures.ends
