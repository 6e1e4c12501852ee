use Rattle.std.proofs.Common.{◌≤◌}
use Rattle.std.specs.Prelude.{option_copied}
use Rattle.past.specs.Given.{count_of}
use Rattle.origin_texts.proofs.Descending.{IsGoing}
use Rattle.origin_texts.proofs.lost.links_down.Given as goal

abbrev pub invariant-loop-left : goal.invariant-loop-left
invariant-loop-left g l = record {
  few : l.left ≤ count_of l.past.given;
  going : IsGoing l.past (option_copied l.replay) l.fn.place l.links.items l.place l.left;
}

abbrev pub decreases-loop-left : goal.decreases-loop-left
decreases-loop-left g l = l.left
