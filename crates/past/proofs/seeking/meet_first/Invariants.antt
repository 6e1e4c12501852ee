use Rattle.std.proofs.Common.{◌≡◌, ◌+◌, drop, take}
use Rattle.machine.specs.Run.{run_after}
use Rattle.origins.specs.Places.{IsThere}
use Rattle.past.specs.Given.{events_of}
use Rattle.past.specs.Position.{MayGive}
use Rattle.past.specs.Seeking.{found_by}
use Rattle.past.proofs.seeking.meet_first.Given as goal

-- what is found with the events that are left is what is found in all of them
abbrev pub invariant-loop-given : goal.invariant-loop-given
invariant-loop-given g l = record {
  state : run_after (take l.left (events_of (drop l.given-index l.all) l.player)) l.machine
      ≡ run_after (take l.n (events_of l.all l.fn.player)) l.fn.machine;
  found : found_by l.search (take l.left (events_of (drop l.given-index l.all) l.player)) l.machine
      ≡ found_by l.fn.search (take l.n (events_of l.all l.fn.player)) l.fn.machine;
  may : MayGive l.left l.player;
  there : IsThere l.search.place l.machine;
  before : l.search.before + l.left ≡ l.fn.search.before + l.n;
}
