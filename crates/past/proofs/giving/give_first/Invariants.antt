use Rattle.std.proofs.Common.{◌≡◌, drop, take}
use Rattle.machine.specs.Run.{run_after}
use Rattle.past.specs.Given.{events_of, first_of, position_of}
use Rattle.past.specs.Giving.{HasSameSize}
use Rattle.past.specs.Position.{MayGive}
use Rattle.past.proofs.giving.give_first.Given as goal

-- what the events that are left lead to is what all of them lead to
abbrev pub invariant-loop-given : goal.invariant-loop-given
invariant-loop-given g l = record {
  state : run_after (take l.left (events_of (drop l.given-index l.all) l.player)) l.machine
      ≡ run_after (take l.n (events_of l.all l.fn.player)) l.fn.machine;
  position : position_of (first_of l.left (drop l.given-index l.all)) l.player ≡ position_of (first_of l.n l.all) l.fn.player;
  may : MayGive l.left l.player;
  size : HasSameSize l.fn.machine l.machine;
}
