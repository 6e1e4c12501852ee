use Rattle.std.proofs.Common.{◌≡◌, ◌≤◌, ◌-◌, drop}
use Rattle.std.specs.Prelude.{option_copied}
use Rattle.hart.specs.Opening.{opening}
use Rattle.past.specs.Given.{past_events, state_at}
use Rattle.past.specs.Giving.{HasSameSize}
use Rattle.origin_texts.specs.Log.{IsLog}
use Rattle.origin_texts.specs.Origin.{history}
use Rattle.origin_texts.proofs.log.log_of.Given as goal

abbrev pub invariant-loop-met : goal.invariant-loop-met
invariant-loop-met g l = record {
  low : l.from ≤ l.met;
  high : l.met ≤ l.to;
  machine : l.machine ≡ state_at l.met l.past (option_copied l.replay);
  size : HasSameSize (opening l.past.image) l.machine;
  events : l.events ≡ drop l.met (past_events l.past (option_copied l.replay));
  log : IsLog (history l.past (option_copied l.replay)) l.from l.met l.log.items;
}

abbrev pub decreases-loop-met : goal.decreases-loop-met
decreases-loop-met g l = l.to - l.met
