use Rattle.std.proofs.Common.{◌≡◌}
use Rattle.machine.specs.Run.{run_after}
use Rattle.past.specs.Giving.{HasSameSize, place_after, some_of}
use Rattle.past.specs.Position.{MayGive}
use Rattle.past.proofs.giving.give_each.Given as goal

-- what the events that are left lead to is what all of them lead to
abbrev pub invariant-loop-left : goal.invariant-loop-left
invariant-loop-left g l = record {
  state : run_after (some_of l.left l.given l.player) l.machine ≡ run_after (some_of l.n l.given l.fn.player) l.fn.machine;
  position : place_after l.left l.given l.player ≡ place_after l.n l.given l.fn.player;
  may : MayGive l.left l.player;
  size : HasSameSize l.fn.machine l.machine;
}

abbrev pub decreases-loop-left : goal.decreases-loop-left
decreases-loop-left g l = l.left
