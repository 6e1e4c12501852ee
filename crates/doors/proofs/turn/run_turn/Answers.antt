use Rattle.std.proofs.Common.{◌++◌, ◌+◌, ap, refl, sym, ◌∙◌, arith}
use Rattle.std.proofs.lemmas.Grind.{common_steps}
use Rattle.std.proofs.lemmas.List.{append-nil}
use Rattle.std.proofs.Math.ListN.{drop_of_length-le}
use Rattle.std.specs.Prelude.{option_to_list, None, Some}
use Rattle.doors.proofs.Events.{IsTurnTo-none, IsTurnTo-more, bytes-more, ends-before, ends-no_jump, goes_on-kept, rights-kept, seals-kept}
use Rattle.doors.proofs.Events.{left-kept, silent-kept}
use Rattle.doors.proofs.TurnTwins.{HasTwins-none, HasTwins-more, ends-too, same-turn}
use Rattle.doors.proofs.turn.run_turn.Goals as goal

pub loop-event-init : goal.loop-event-init
loop-event-init g c = record {
  done = refl;
  turn = IsTurnTo-none c.args.events.now c.args.machine.now;
  twins = HasTwins-none c.args.events.now c.args.machine.now;
  bytes = c.reserve.ensures.items ∙ sym (append-nil c.args.out.now.items);
  room = grind (arith, common_steps);
}

pub loop-event-preserved : goal.loop-event-preserved
loop-event-preserved g c =
    let l = c.loop-event in
    let events = c.args.events.now in
    let s = c.args.machine.now in
    let i = l.event-index in
    let below = c.loop-event-test.true in
    let met = c.meet.ensures in
    let goes_on = rw c.in-Ok.is at met.goes_on in
    let state = rw c.in-Ok.is at met.state in
    let byte = rw c.in-Ok.is at met.byte in
    record {
      done = ap (λ n. n + 1) l.invariant.done;
      turn = IsTurnTo-more events i _ below s l.machine l.invariant.turn c.meet.new.machine state met.was_state goes_on;
      twins = HasTwins-more events i _ below s l.machine l.invariant.turn l.invariant.twins met.was_state goes_on;
      bytes = bytes-more events i _ below s l.machine l.invariant.turn c.emit.new.out.items l.out.items c.args.out.now.items
          (c.emit.ensures.items ∙ ap (λ b. l.out.items ++ option_to_list b) byte) l.invariant.bytes;
      room = omega (arith, c.emit.ensures.len, c.emit.ensures.room, l.invariant.room);
    }

pub returns-in-Err-clause-end : goal.returns-in-Err-clause-end
returns-in-Err-clause-end g c =
    let l = c.loop-event in
    ends-before c.args.events.now l.event-index _ c.loop-event-test.true c.args.machine.now l.machine l.invariant.turn l.done c.in-Err.why
    c.meet.new.machine l.invariant.done (rw c.in-Err.is at c.meet.ensures.same) (rw c.in-Err.is at c.meet.ensures.why)

pub returns-in-Err-clause-no_jump : goal.returns-in-Err-clause-no_jump
returns-in-Err-clause-no_jump g c =
    let l = c.loop-event in
    ends-no_jump c.args.events.now l.event-index _ c.loop-event-test.true c.args.machine.now l.machine l.invariant.turn c.in-Err.why
    (rw c.in-Err.is at c.meet.ensures.why)

pub returns-in-Err-clause-no_new_rights : goal.returns-in-Err-clause-no_new_rights
returns-in-Err-clause-no_new_rights g c =
    let l = c.loop-event in
    rights-kept c.args.events.now c.args.machine.now l.machine l.event-index l.done l.invariant.done l.invariant.turn

pub returns-in-Err-clause-new_seals : goal.returns-in-Err-clause-new_seals
returns-in-Err-clause-new_seals g c =
    let l = c.loop-event in
    seals-kept c.args.events.now c.args.machine.now l.machine l.event-index l.done l.invariant.done l.invariant.turn

pub returns-in-Err-clause-left_alone : goal.returns-in-Err-clause-left_alone
returns-in-Err-clause-left_alone g c =
    let l = c.loop-event in
    left-kept c.args.events.now c.args.machine.now l.machine l.event-index l.done l.invariant.done l.invariant.turn

pub returns-in-Err-clause-silent : goal.returns-in-Err-clause-silent
returns-in-Err-clause-silent g c =
    let l = c.loop-event in
    silent-kept c.args.events.now c.args.machine.now l.machine l.event-index l.done l.invariant.done l.invariant.turn

pub returns-in-Err-clause-plain_or_jumps : goal.returns-in-Err-clause-plain_or_jumps
returns-in-Err-clause-plain_or_jumps g c =
    let l = c.loop-event in
    goes_on-kept c.args.events.now c.args.machine.now l.machine l.event-index l.done l.invariant.done l.invariant.turn

pub returns-clause-no_new_rights : goal.returns-clause-no_new_rights
returns-clause-no_new_rights g c =
    let l = c.loop-event in
    rights-kept c.args.events.now c.args.machine.now l.machine l.event-index l.done l.invariant.done l.invariant.turn

pub returns-clause-new_seals : goal.returns-clause-new_seals
returns-clause-new_seals g c =
    let l = c.loop-event in
    seals-kept c.args.events.now c.args.machine.now l.machine l.event-index l.done l.invariant.done l.invariant.turn

pub returns-clause-left_alone : goal.returns-clause-left_alone
returns-clause-left_alone g c =
    let l = c.loop-event in
    left-kept c.args.events.now c.args.machine.now l.machine l.event-index l.done l.invariant.done l.invariant.turn

pub returns-clause-silent : goal.returns-clause-silent
returns-clause-silent g c =
    let l = c.loop-event in
    silent-kept c.args.events.now c.args.machine.now l.machine l.event-index l.done l.invariant.done l.invariant.turn

pub returns-clause-plain_or_jumps : goal.returns-clause-plain_or_jumps
returns-clause-plain_or_jumps g c =
    let l = c.loop-event in
    goes_on-kept c.args.events.now c.args.machine.now l.machine l.event-index l.done l.invariant.done l.invariant.turn

pub returns-in-Err-clause-two_worlds : goal.returns-in-Err-clause-two_worlds
returns-in-Err-clause-two_worlds g c =
    let l = c.loop-event in
    let events = c.args.events.now in
    let s = c.args.machine.now in
    same-turn events s l.event-index l.done l.invariant.done l.invariant.twins (Some c.in-Err.why)
    (λ t agree. ends-too events l.event-index _ c.loop-event-test.true s l.machine l.invariant.turn l.invariant.twins t agree c.in-Err.why
    (rw c.in-Err.is at c.meet.ensures.why))

pub returns-clause-two_worlds : goal.returns-clause-two_worlds
returns-clause-two_worlds g c =
    let l = c.loop-event in
    let events = c.args.events.now in
    same-turn events c.args.machine.now l.event-index l.done l.invariant.done l.invariant.twins None
    (λ t agree. drop_of_length-le events (omega (arith, c.loop-event-test.false)))
