use Rattle.schedules.specs.declared.pace.How.TheVariants.{Done}
use Rattle.schedules.proofs.Pieces.{walk_ends, walked_more}
use Rattle.schedules.proofs.walking.walk_on.Goals as goal

pub loop-position-preserved : goal.loop-position-preserved
loop-position-preserved g c =
    let laws = g.met.V.Watch in
    let l = c.loop-position in
    record {
      done = c.meet.ensures.done;
      owed = c.in-Done.ensures.ends.1;
      walked = walked_more g.V.Watch.Saw g.V.Watch.Lost g.V.Watch.Barred laws.goes_on laws.fails_later laws.bars_later c.args.schedule
          c.args.input.now Done c.args.position.now
          l.position c.meet.new.position c.args.machine.now l.machine c.meet.new.machine c.args.watch.now l.watch c.meet.new.watch
          c.requires.running l.invariant.walked l.invariant.running c.in-Done.ensures.walked;
      running = c.in-Done.ensures.ends.0;
      ready = c.in-Done.ensures.ready;
    }

pub returns-in_default : goal.returns-in_default
returns-in_default g c =
    let laws = g.met.V.Watch in
    let l = c.loop-position in
    record {
      walked = walked_more g.V.Watch.Saw g.V.Watch.Lost g.V.Watch.Barred laws.goes_on laws.fails_later laws.bars_later c.args.schedule
          c.args.input.now c.meet.result
          c.args.position.now l.position c.meet.new.position c.args.machine.now l.machine c.meet.new.machine c.args.watch.now l.watch
          c.meet.new.watch c.requires.running l.invariant.walked l.invariant.running c.meet.ensures.walked;
      ends = walk_ends g.V.Watch.stops_at c.args.schedule c.args.input.now c.meet.result l.position
          c.meet.new.position c.meet.new.machine c.meet.new.watch c.in_default.not-Done c.meet.ensures.ends;
      done = c.meet.ensures.done;
      ready = c.meet.ensures.ready;
    }
