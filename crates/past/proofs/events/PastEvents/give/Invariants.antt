use Rattle.std.proofs.Common.{◌≡◌, ◌≤◌, ◌-◌, drop, take}
use Rattle.machine.specs.Run.{run_after}
use Rattle.past.specs.Giving.{HasSameSize}
use Rattle.past.proofs.events.PastEvents.give.Given as goal

-- those that are given already
abbrev pub invariant-loop-left : goal.invariant-loop-left
invariant-loop-left g l = record {
  few : l.left ≤ l.n;
  events : l.self ≡ drop (l.n - l.left) l.fn.self;
  state : l.machine ≡ run_after (take (l.n - l.left) l.fn.self) l.fn.machine;
  size : HasSameSize l.fn.machine l.machine;
}

abbrev pub decreases-loop-left : goal.decreases-loop-left
decreases-loop-left g l = l.left
