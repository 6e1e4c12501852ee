use Rattle.std.proofs.Common.{rules, arith}
use Rattle.schedules.specs.declared.pace.How.TheVariants.{Done}
use Rattle.schedules.proofs.Steps.{ends_early, went_more, went_halted}
use Rattle.schedules.proofs.walking.go.Goals as goal

pub returns-in_default : goal.returns-in_default
returns-in_default g c =
    let l = c.loop-done in
    let laws = g.met.V.Watch in
    let how = c.turn-steps.result.how in
    let k = c.turn-steps.result.steps in
    record {
      few = omega (arith, c.turn-steps.ensures.few, c.loop-done-test.true);
      went = went_more g.V.Watch.Saw g.V.Watch.Lost g.V.Watch.Barred laws.goes_on laws.fails_later laws.bars_later how l.done k
          c.args.machine.now l.machine
          c.turn-steps.new.machine c.args.watch.now l.watch c.turn-steps.new.watch l.invariant.went c.turn-steps.ensures.went;
      ready = c.turn-steps.ensures.ready;
      ends = ends_early g.V.Watch.stops_at how l.done k c.args.count c.turn-steps.new.machine c.turn-steps.new.watch c.in_default.not-Done
          (omega (arith, c.loop-done-test.true)) c.turn-steps.ensures.ends;
    }

pub returns-then-is_some-clause-went : goal.returns-then-is_some-clause-went
returns-then-is_some-clause-went g c =
    let l = c.loop-done in
    let laws = g.met.V.Watch in
    went_halted g.V.Watch.Saw g.V.Watch.Lost g.V.Watch.Barred laws.goes_on laws.fails_later laws.bars_later l.done
    c.turn-steps.result.steps c.args.machine.now l.machine
    c.turn-steps.new.machine c.args.watch.now l.watch c.turn-steps.new.watch l.invariant.went
    (rw c.in-Done.is at c.turn-steps.ensures.went)

pub loop-done-preserved : goal.loop-done-preserved
loop-done-preserved g c =
    let l = c.loop-done in
    let laws = g.met.V.Watch in
    record {
      few = omega (arith, c.turn-steps.ensures.few, c.loop-done-test.true);
      went = went_more g.V.Watch.Saw g.V.Watch.Lost g.V.Watch.Barred laws.goes_on laws.fails_later laws.bars_later Done l.done
          c.turn-steps.result.steps c.args.machine.now
          l.machine c.turn-steps.new.machine c.args.watch.now l.watch c.turn-steps.new.watch l.invariant.went
          (rw c.in-Done.is at c.turn-steps.ensures.went);
      running = search rules;
      ready = rw c.in-Done.is at c.turn-steps.ensures.ready;
    }
