use Rattle.std.proofs.Common.{◌<◌, ◌≤◌, arith}
use Rattle.steps.specs.State.{State}
use Rattle.debugger.specs.Marked.{seen}
use Rattle.debugger.specs.Stops.{ends, is_end}
use Rattle.debugger.proofs.RunSteps.{GoesBetween, bytes_towards, count_towards, passes, positive, state_towards}
use Rattle.debugger.proofs.stepping.run_towards.Goals as goal

pub returns-in-Some-clause-state : goal.returns-in-Some-clause-state
returns-in-Some-clause-state g c =
    let there = ends (seen g.C.CapRep.value c.args.marks.now) c.args.unfetched in
    let w = c.in-Some.window in
    let by = c.advance_between.ensures in
    let few : c.advance_between.result ≤ c.args.most = grind (arith, c.min.ensures, by.few) in
    let none = rw c.in-Some.is at c.window_at.ensures in
    state_towards there w.low w.high (λ s goes. passes there s goes.0 (none g.C.CapRep.value s goes.1.0 goes.1.1 goes.0)) c.args.room
    (positive c.args.room c.if-room-eq0.false) c.args.most c.advance_between.result c.args.machine.now c.advance_between.new.self
    few by.state by.silent (λ j below. (by.goes j below, (by.low j below, by.high j below)))

pub returns-in-Some-clause-bytes : goal.returns-in-Some-clause-bytes
returns-in-Some-clause-bytes g c =
    let there = ends (seen g.C.CapRep.value c.args.marks.now) c.args.unfetched in
    let w = c.in-Some.window in
    let by = c.advance_between.ensures in
    let few : c.advance_between.result ≤ c.args.most = grind (arith, c.min.ensures, by.few) in
    let none = rw c.in-Some.is at c.window_at.ensures in
    bytes_towards there w.low w.high (λ s goes. passes there s goes.0 (none g.C.CapRep.value s goes.1.0 goes.1.1 goes.0)) c.args.room
    (positive c.args.room c.if-room-eq0.false) c.args.most c.advance_between.result c.args.machine.now c.advance_between.new.self
    few by.state by.silent (λ j below. (by.goes j below, (by.low j below, by.high j below)))

pub returns-in-Some-clause-count : goal.returns-in-Some-clause-count
returns-in-Some-clause-count g c =
    let there = ends (seen g.C.CapRep.value c.args.marks.now) c.args.unfetched in
    let w = c.in-Some.window in
    let by = c.advance_between.ensures in
    let few : c.advance_between.result ≤ c.args.most = grind (arith, c.min.ensures, by.few) in
    let none = rw c.in-Some.is at c.window_at.ensures in
    count_towards there w.low w.high (λ s goes. passes there s goes.0 (none g.C.CapRep.value s goes.1.0 goes.1.1 goes.0)) c.args.room
    (positive c.args.room c.if-room-eq0.false) c.args.most c.advance_between.result c.args.machine.now c.advance_between.new.self
    few by.state by.silent (λ j below. (by.goes j below, (by.low j below, by.high j below)))
