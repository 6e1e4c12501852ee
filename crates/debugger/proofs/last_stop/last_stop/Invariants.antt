use Rattle.std.proofs.Common.{◌≡◌, ◌+◌, ◌<◌, length, take, drop}
use Rattle.std.specs.Prelude.{IfSome}
use Rattle.machine.specs.Run.{run_after}
use Rattle.debugger.specs.LastStop.{last_stop}
use Rattle.debugger.specs.Marked.{seen}
use Rattle.debugger.proofs.last_stop.last_stop.Given as goal

-- after as many events as the place counts
abbrev pub invariant-loop-event : goal.invariant-loop-event
invariant-loop-event g l = record {
  rest : drop l.place l.fn.events ≡ l.events;
  state : l.machine ≡ run_after (take l.place l.fn.events) l.fn.machine;
  last : l.last ≡ last_stop (seen g.C.CapRep.value l.marks) l.fn.events l.fn.machine l.place;
  before : IfSome l.last (λ place. place < l.place);
  count : l.place + length l.events ≡ length l.fn.events;
}

abbrev pub decreases-loop-event : goal.decreases-loop-event
decreases-loop-event g l = length l.events
