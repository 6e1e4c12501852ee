use Rattle.std.proofs.Common.{◌≡◌, ◌+◌, [], length}
use Rattle.origin_texts.specs.Calls.{open_after}
use Rattle.origin_texts.proofs.calls.open_after.Given as goal

-- what the other events make of the calls so far is what all make of none
abbrev pub invariant-loop-event : goal.invariant-loop-event
invariant-loop-event g l = record {
  rest : open_after l.before l.stack.items l.events l.machine ≡ open_after 0 [] l.fn.events l.fn.machine;
  count : l.before + length l.events ≡ length l.fn.events;
}

abbrev pub decreases-loop-event : goal.decreases-loop-event
decreases-loop-event g l = length l.events
