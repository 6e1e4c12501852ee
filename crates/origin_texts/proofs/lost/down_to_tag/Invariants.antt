use Rattle.std.proofs.Common.{◌≡◌, ◌≤◌, drop, length, take}
use Rattle.std.specs.Prelude.{IfSome, option_copied, option_map}
use Rattle.hart.specs.Opening.{opening}
use Rattle.past.specs.Given.{past_events, state_at}
use Rattle.past.specs.Giving.{HasSameSize}
use Rattle.origin_texts.specs.Lost.{down_to_tag}
use Rattle.origin_texts.specs.Origin.{history}
use Rattle.origin_texts.proofs.Telling.{AreLeft}
use Rattle.origin_texts.proofs.lost.down_to_tag.Given as goal

abbrev pub invariant-loop-left : goal.invariant-loop-left
invariant-loop-left l = record {
  machine : l.machine ≡ state_at l.met l.past (option_copied l.replay);
  size : HasSameSize (opening l.past.image) l.machine;
  events : l.events ≡ drop l.met (past_events l.past (option_copied l.replay));
  within : l.left ≤ length l.links;
  later : AreLeft (history l.past (option_copied l.replay)) l.met (take l.left l.links);
  few : IfSome l.down (λ n. (l.left ≤ n) × (n ≤ length l.links));
  down : option_map (λ n. drop l.left (take n l.links)) l.down
      ≡ down_to_tag l.past (option_copied l.replay) (drop l.left l.links);
}

abbrev pub decreases-loop-left : goal.decreases-loop-left
decreases-loop-left l = l.left
