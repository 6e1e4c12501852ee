use Rattle.std.proofs.Common.{◌≡◌, ◌+◌, ◌++◌, List}
use Rattle.steps.specs.declared.event.Event.{Event}
use Rattle.machine.specs.Run.{run_after}
use Rattle.origins.specs.Places.{IsThere}
use Rattle.past.specs.Giving.{place_after, some_of}
use Rattle.past.specs.Position.{MayGive}
use Rattle.past.specs.Seeking.{found_by}
use Rattle.past.proofs.seeking.meet_some.Given as goal

-- what is found with the events that are left is what is found in all of them
abbrev pub invariant-loop-left : goal.invariant-loop-left
invariant-loop-left g l = record {
  state : run_after (some_of l.left l.given l.player) l.machine ≡ run_after (some_of l.n l.given l.fn.player) l.fn.machine;
  found : (later : List Event) → found_by l.search (some_of l.left l.given l.player ++ later) l.machine
      ≡ found_by l.fn.search (some_of l.n l.given l.fn.player ++ later) l.fn.machine;
  position : place_after l.left l.given l.player ≡ place_after l.n l.given l.fn.player;
  may : MayGive l.left l.player;
  there : IsThere l.search.place l.machine;
  before : l.search.before + l.left ≡ l.fn.search.before + l.n;
}

abbrev pub decreases-loop-left : goal.decreases-loop-left
decreases-loop-left g l = l.left
