use Rattle.std.proofs.Common.{arith}
use Rattle.schedules.specs.declared.pace.How.TheVariants.{Done}
use Rattle.schedules.proofs.Pieces.{block_ends, block_walked, tick_walked}
use Rattle.schedules.proofs.walking.meet.Goals as goal

pub returns-in-Done-clause-walked : goal.returns-in-Done-clause-walked
returns-in-Done-clause-walked g c =
    let laws = g.met.V.Watch in
    let s = c.args.machine.now in
    let t = c.go-steps.new.machine in
    let ends = rw c.in-Done.is at c.go-steps.ensures.ends in
    tick_walked g.V.Watch.Saw g.V.Watch.Lost g.V.Watch.Barred laws.goes_on laws.fails_later laws.bars_later c.args.schedule
    c.args.input.now c.args.position.now c.stand.result
    s t c.pay.new.machine c.args.watch.now c.go-steps.new.watch c.pay.new.watch c.requires.running
    (block_walked g.V.Watch.Saw g.V.Watch.Lost g.V.Watch.Barred laws.goes_on laws.fails_later laws.bars_later c.args.schedule
    c.args.input.now Done c.go-steps.result.steps
    c.args.position.now c.stand.result s c.bring.new.machine t c.args.watch.now c.bring.new.watch c.go-steps.new.watch c.requires.running
    c.bring.ensures.halted c.bring.ensures.met c.stand.ensures.rest (rw c.in-Done.is at c.go-steps.ensures.went))
    ends.1 c.pay.ensures.met

pub returns-in_default : goal.returns-in_default
returns-in_default g c =
    let laws = g.met.V.Watch in
    record {
      walked = block_walked g.V.Watch.Saw g.V.Watch.Lost g.V.Watch.Barred laws.goes_on laws.fails_later laws.bars_later c.args.schedule
          c.args.input.now c.go-steps.result.how
          c.go-steps.result.steps c.args.position.now c.stand.result c.args.machine.now c.bring.new.machine c.go-steps.new.machine
          c.args.watch.now c.bring.new.watch c.go-steps.new.watch c.requires.running c.bring.ensures.halted c.bring.ensures.met
          c.stand.ensures.rest c.go-steps.ensures.went;
      ends = block_ends g.V.Watch.stops_at c.args.schedule c.go-steps.result.how c.steps_alone-count.result c.go-steps.result.steps
          c.args.position.now c.stand.result c.go-steps.new.machine c.go-steps.new.watch
          c.in_default.not-Done c.stand.ensures.next c.go-steps.ensures.ends;
      done = omega (arith, c.stand.ensures.done, c.go-steps.ensures.few, c.steps_alone-count.ensures.few);
      ready = c.go-steps.ensures.ready;
    }
