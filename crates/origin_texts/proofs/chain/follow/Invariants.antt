use Rattle.std.proofs.Common.{◌≤◌, ℕ, length}
use Rattle.origin_texts.specs.Chain.{History}
use Rattle.origin_texts.specs.Log.{IsHistory, IsIn, IsLog}
use Rattle.origin_texts.proofs.Following.{IsFollowed}
use Rattle.origin_texts.proofs.chain.follow.Given as goal

abbrev pub invariant-loop-left : goal.invariant-loop-left
invariant-loop-left l = record {
  within : l.left ≤ length l.log;
  followed : (w : History) (from : ℕ) → IsHistory w → IsIn l.fn.place w → from ≤ l.fn.events → IsLog w from l.fn.events l.log
      → IsFollowed w from l.fn.events l.log l.fn.place l.links.items l.left l.place l.events;
}

abbrev pub decreases-loop-left : goal.decreases-loop-left
decreases-loop-left l = l.left
