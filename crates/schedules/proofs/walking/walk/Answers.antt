use Rattle.std.proofs.Common.{◌∙◌}
use Rattle.schedules.proofs.Pieces.{owed_walked}
use Rattle.schedules.proofs.walking.walk.Goals as goal

pub returns-clause-walked : goal.returns-clause-walked
returns-clause-walked g c =
    let laws = g.met.V.Watch in
    owed_walked g.V.Watch.Saw g.V.Watch.Lost g.V.Watch.Barred laws.goes_on laws.fails_later laws.bars_later c.args.schedule
    c.args.input.now c.walk_on.result
    c.args.position.now c.walk_on.new.position c.args.machine.now c.pay.new.machine c.walk_on.new.machine c.args.watch.now c.pay.new.watch
    c.walk_on.new.watch c.requires.running c.pay.ensures.met (c.pay.ensures.halted ∙ c.requires.running) c.walk_on.ensures.walked
