use Rattle.std.proofs.Common.{sym, append-nil, ◌∙◌, arith}
use Rattle.machine.proofs.Steps.{slice_rest, state_left, bytes_left, length_left, steps_left, none_left}
use Rattle.machine.proofs.machine.Machine.run.Goals as goal

pub loop-rest-preserved : goal.loop-rest-preserved
loop-rest-preserved g c =
    let l = c.loop-rest in
    let met = c.meet_first-met in
    let known = c.known_steps-steps in
    let k = met.result.steps in
    let rest = l.rest.now in
    record {
      state = state_left k rest _ (slice_rest k rest) l.self met.new.self met.ensures.state _ l.invariant.state;
      bytes = bytes_left k rest _ (slice_rest k rest) l.self met.new.self met.ensures.state met.result.byte _ l.out.items _
          c.emit.ensures.items met.ensures.bytes l.invariant.bytes;
      few = omega (
        arith,
        known.ensures.few,
        met.ensures.few,
        c.saturating_sub-steps.ensures,
        length_left k rest _ (slice_rest k rest),
      );
      steps = steps_left k known.result _ rest _ (slice_rest k rest) c.saturating_sub-steps.ensures known.ensures.steps;
      room = omega (
        arith,
        met.ensures.some,
        met.ensures.few,
        c.emit.ensures.len,
        c.emit.ensures.room,
        l.invariant.room,
        length_left k rest _ (slice_rest k rest),
      );
    }

pub returns-in-Some-clause-state : goal.returns-in-Some-clause-state
returns-in-Some-clause-state g c =
    let l = c.loop-rest in
    let none = none_left l.rest.now c.is_empty.result c.is_empty.ensures c.loop-rest-test.false in
    rw none at l.invariant.state

pub returns-in-Some-clause-bytes : goal.returns-in-Some-clause-bytes
returns-in-Some-clause-bytes g c =
    let l = c.loop-rest in
    let none = none_left l.rest.now c.is_empty.result c.is_empty.ensures c.loop-rest-test.false in
    sym (append-nil l.out.items) ∙ rw none at l.invariant.bytes

pub returns-in-None-clause-state : goal.returns-in-None-clause-state
returns-in-None-clause-state g c =
    let l = c.loop-rest in
    let none = none_left l.rest.now c.is_empty.result c.is_empty.ensures c.loop-rest-test.false in
    rw none at l.invariant.state

pub returns-in-None-clause-bytes : goal.returns-in-None-clause-bytes
returns-in-None-clause-bytes g c =
    let l = c.loop-rest in
    let none = none_left l.rest.now c.is_empty.result c.is_empty.ensures c.loop-rest-test.false in
    sym (append-nil l.out.items) ∙ rw none at l.invariant.bytes
