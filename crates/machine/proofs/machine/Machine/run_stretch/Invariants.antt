use Rattle.std.proofs.Common.{◌≡◌, ◌+◌, ◌-◌, ◌≤◌, ◌++◌, take, length, vec_len, vec_capacity}
use Rattle.machine.specs.Run.{run_after, run_sent}
use Rattle.machine.specs.Stretch.{ArePlain}
use Rattle.machine.proofs.Stretches.{KeepsUpTo}
use Rattle.machine.proofs.Twins.{AreTwins}
use Rattle.steps.specs.State.{State}
use Rattle.authority.specs.Worlds.{Agree}
use Rattle.machine.proofs.machine.Machine.run_stretch.Given as goal

-- the events so far make a stretch that keeps authority, and the same stretch from every state that agrees with the first
abbrev pub invariant-loop-event : goal.invariant-loop-event
invariant-loop-event g l = record {
  done : l.done ≡ l.event-index;
  state : l.self ≡ run_after (take l.event-index l.events) l.fn.self;
  bytes : l.out.items ≡ l.fn.out.items ++ run_sent (take l.event-index l.events) l.fn.self;
  plain : ArePlain (take l.event-index l.events) l.fn.self;
  keeps : KeepsUpTo l.events l.fn.self l.event-index;
  twins : (t : State) → Agree l.fn.self t → AreTwins l.events l.fn.self t l.event-index;
  room : vec_len l.out + (length l.events - l.event-index) ≤ vec_capacity l.out;
}
