use Rattle.std.proofs.Common.{◌≡◌, ◌+◌, ◌-◌, ◌≤◌, length, take, vec_len, vec_capacity}
use Rattle.policy.specs.Terms.{terms_of}
use Rattle.policy.specs.Lending.{in_force}
use Rattle.policy.specs.Known.{IsWhole, Knows, rules_of, said_to}
use Rattle.policy.specs.Run.{IsRunOf, KeepToEach}
use Rattle.policy.proofs.watch.run_watched.Given as goal

-- the run so far, and what the watcher knows
abbrev pub invariant-loop-event : goal.invariant-loop-event
invariant-loop-event g l = record {
  done : l.done ≡ l.event-index;
  run : IsRunOf l.events l.event-index l.fn.machine l.machine l.fn.out.items l.out.items;
  kept : KeepToEach (terms_of l.rules) l.events l.event-index l.fn.machine;
  said : said_to l.watcher ≡ terms_of l.rules;
  rules : rules_of l.watcher ≡ in_force (terms_of l.rules) (take l.event-index l.events) l.fn.machine;
  whole : IsWhole l.watcher;
  knows : Knows l.watcher l.machine;
  room : vec_len l.out + (length l.events - l.event-index) ≤ vec_capacity l.out;
}
