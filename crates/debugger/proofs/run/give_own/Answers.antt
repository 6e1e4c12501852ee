use Rattle.std.proofs.Common.{◌∙◌, ap, arith}
use Rattle.std.specs.Prelude.{option_map}
use Rattle.past.specs.Replay.{replayed}
use Rattle.debugger.specs.Stepping.{steps_while}
use Rattle.debugger.specs.Stops.{Ends, at_stops, nowhere, of_go}
use Rattle.debugger.specs.Reply.{own_steps}
use Rattle.debugger.specs.Marked.{seen}
use Rattle.debugger.proofs.Gives.{same_replay}
use Rattle.debugger.proofs.Bounded.{counted_few, steps_few}
use Rattle.debugger.proofs.run.give_own.Goals as goal

pub returns-in-Steps-clause-few : goal.returns-in-Steps-clause-few
returns-in-Steps-clause-few g c =
    let few = counted_few c.args.replay.now c.in-Steps.n c.args.machine.now in
    let most = rw c.in-Steps.is at c.requires.limits in
    omega (arith, few, most, c.give_steps.ensures.count)

pub returns-in-Until-clause-replay : goal.returns-in-Until-clause-replay
unfolding own_steps
returns-in-Until-clause-replay g c =
    let marks = seen g.C.CapRep.value c.args.marks.now in
    let there =
    c.steps_while.ensures.replay
    ∙ ap (λ room. option_map (replayed (steps_while (at_stops marks) (at_stops marks)
    c.args.replay.now c.in-Until.most room c.args.machine.now)) c.args.replay.now)
    c.most_sent-room.ensures.value in
    rw c.in-Until.is there

pub returns-in-Until-clause-few : goal.returns-in-Until-clause-few
returns-in-Until-clause-few g c =
    let marks = seen g.C.CapRep.value c.args.marks.now in
    let there : Ends = at_stops marks in
    let few = steps_few there there c.args.replay.now c.in-Until.most c.most_sent-room.result c.args.machine.now in
    let most = rw c.in-Until.is at c.requires.limits in
    omega (arith, few, most, c.steps_while.ensures.count)

pub returns-in-Go-clause-replay : goal.returns-in-Go-clause-replay
unfolding own_steps
returns-in-Go-clause-replay g c =
    let marks = seen g.C.CapRep.value c.args.marks.now in
    let there =
    c.steps_while-in-Go.ensures.replay
    ∙ ap (λ room. option_map (replayed
    (steps_while nowhere (of_go marks) c.args.replay.now c.in-Go.most room c.args.machine.now)) c.args.replay.now)
    c.most_sent-room-in-Go.ensures.value in
    rw c.in-Go.is there

pub returns-in-Go-clause-few : goal.returns-in-Go-clause-few
returns-in-Go-clause-few g c =
    let marks = seen g.C.CapRep.value c.args.marks.now in
    let few =
    steps_few nowhere (of_go marks) c.args.replay.now c.in-Go.most c.most_sent-room-in-Go.result c.args.machine.now in
    let most = rw c.in-Go.is at c.requires.limits in
    omega (arith, few, most, c.steps_while-in-Go.ensures.count)

pub returns-in-Ticks-clause-replay : goal.returns-in-Ticks-clause-replay
unfolding own_steps
returns-in-Ticks-clause-replay g c = rw c.in-Ticks.is (same_replay c.args.replay.now)

pub returns-in-Byte-clause-replay : goal.returns-in-Byte-clause-replay
unfolding own_steps
returns-in-Byte-clause-replay g c = rw c.in-Byte.is (same_replay c.args.replay.now)

pub returns-in-Changed-clause-replay : goal.returns-in-Changed-clause-replay
unfolding own_steps
returns-in-Changed-clause-replay g c = rw c.in-Changed.is (same_replay c.args.replay.now)
