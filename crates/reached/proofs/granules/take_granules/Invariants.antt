use Rattle.std.proofs.Common.{◌≡◌, ◌-◌, ◌≤◌, map, take, drop, length}
use Rattle.std.specs.List.{All}
use Rattle.reached.specs.Links.{IsMemberThrough}
use Rattle.reached.specs.Order.{seen_members}
use Rattle.reached.proofs.Finding.{IsTaking}
use Rattle.reached.specs.Search.{IsBetween, IsOpened}
use Rattle.reached.proofs.granules.take_granules.Given as goal

abbrev pub invariant-loop-next : goal.invariant-loop-next
invariant-loop-next g l = record {
  from_first : l.span.first ≤ l.next;
  opened :
      IsOpened l.memory (g.C.CapRep.value l.fn.cap) (map (λ m. g.C.CapRep.value m.cap) l.fn.members.items)
      (map (λ m. g.C.CapRep.value m.cap) l.members.items) l.fn.left l.left (IsBetween l.span.first l.next);
  kept : take (length l.fn.members.items) l.members.items ≡ l.fn.members.items;
  added :
      All (IsMemberThrough g.C.CapRep.value l.memory (g.C.CapRep.value l.fn.cap) l.from) (drop (length l.fn.members.items) l.members.items);
  found :
      IsTaking l.memory l.from (seen_members g.C.CapRep.value l.fn.members.items) (seen_members g.C.CapRep.value l.members.items) l.fn.left
      l.left l.span.first l.span.end;
}

abbrev pub decreases-loop-next : goal.decreases-loop-next
decreases-loop-next g l = l.span.end - l.next
