use Rattle.std.proofs.Common.{◌≡◌, ◌+◌, ◌-◌, ◌≤◌, ◌++◌, take, length, vec_len, vec_capacity}
use Rattle.machine.specs.Run.{run_sent}
use Rattle.doors.proofs.Events.{IsTurnTo}
use Rattle.doors.proofs.TurnTwins.{HasTwins}
use Rattle.doors.proofs.turn.run_turn.Given as goal

-- the events so far make a turn that keeps authority
abbrev pub invariant-loop-event : goal.invariant-loop-event
invariant-loop-event g l = record {
  done : l.done ≡ l.event-index;
  turn : IsTurnTo l.events l.fn.machine l.event-index l.machine;
  twins : HasTwins l.events l.fn.machine l.event-index;
  bytes : l.out.items ≡ l.fn.out.items ++ run_sent (take l.event-index l.events) l.fn.machine;
  room : vec_len l.out + (length l.events - l.event-index) ≤ vec_capacity l.out;
}
