use Rattle.std.proofs.Common.{◌≡◌, ◌++◌, drop, length}
use Rattle.std.specs.Prelude.{map, option_copied}
use Rattle.hart.specs.Opening.{opening}
use Rattle.past.specs.Given.{past_events, state_at}
use Rattle.past.specs.Giving.{HasSameSize}
use Rattle.origin_texts.specs.Held.{newest_first}
use Rattle.origin_texts.specs.Origin.{history, told}
use Rattle.origin_texts.proofs.Telling.{AreLeft}
use Rattle.origin_texts.proofs.links.tell_links.Given as goal

abbrev pub invariant-loop-link : goal.invariant-loop-link
invariant-loop-link l = record {
  machine : l.machine ≡ state_at l.met l.past (option_copied l.replay);
  size : HasSameSize (opening l.past.image) l.machine;
  events : l.events ≡ drop l.met (past_events l.past (option_copied l.replay));
  left : AreLeft (history l.past (option_copied l.replay)) l.met l.links.items;
  told : map (told l.symbols l.past (option_copied l.replay) l.telling) l.links.items ++ newest_first l.all.items
      ≡ map (told l.symbols l.past (option_copied l.replay) l.telling) l.fn.links.items;
}

abbrev pub decreases-loop-link : goal.decreases-loop-link
decreases-loop-link l = length l.links.items
