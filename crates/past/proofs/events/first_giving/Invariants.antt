use Rattle.std.proofs.Common.{◌≡◌, length}
use Rattle.past.specs.Given.{count_of, events_of}
use Rattle.past.specs.Position.{Position}
use Rattle.past.proofs.events.first_giving.Given as goal

-- the commands that are left gave all events
abbrev pub invariant-loop-rest : goal.invariant-loop-rest
invariant-loop-rest l = record {
  count : count_of l.all ≡ count_of l.rest;
  events : (p : Position) → events_of l.all p ≡ events_of l.rest p;
}

abbrev pub decreases-loop-rest : goal.decreases-loop-rest
decreases-loop-rest l = length l.rest
