use Rattle.std.proofs.Common.{◌≡◌, ◌++◌, ◌+◌, ◌≤◌, length}
use Rattle.std.specs.Prelude.{IfSome, map}
use Rattle.hart.specs.Opening.{opening}
use Rattle.origins.specs.Places.{IsThere}
use Rattle.past.specs.Given.{count_of}
use Rattle.cherisim_c.specs.Links.{shown_link, trail, trail_on}
use Rattle.cherisim_c.proofs.links.trail_of.Given as goal

-- the links so far, and what follows
abbrev pub invariant-loop-next : goal.invariant-loop-next
invariant-loop-next l = record {
  trail : map shown_link l.links.items ++ trail_on (trail l.past l.left) l.next l.events
      ≡ trail l.past l.most l.fn.place (count_of l.past.given);
  few : length l.links.items + l.left ≤ l.most;
  there : IfSome l.next (λ p. IsThere p (opening l.past.image));
}

abbrev pub decreases-loop-next : goal.decreases-loop-next
decreases-loop-next l = l.left
