use Rattle.std.proofs.Common.{◌≡◌, ◌++◌, map, filter, take, drop, length}
use Rattle.std.specs.List.{All}
use Rattle.cap_bounds.specs.CapValue.{is_tagged}
use Rattle.reached.specs.Links.{IsAmong}
use Rattle.reached.specs.Order.{among, seen_members, tagged_from}
use Rattle.reached.proofs.system.add_tagged.Given as goal

abbrev pub invariant-loop-number : goal.invariant-loop-number
invariant-loop-number g l = record {
  values :
      map (λ m. g.C.CapRep.value m.cap) l.members.items
      ≡ map (λ m. g.C.CapRep.value m.cap) l.fn.members.items ++ filter is_tagged (map g.C.CapRep.value (take l.number l.caps));
  kept : take (length l.fn.members.items) l.members.items ≡ l.fn.members.items;
  added : All (IsAmong g.C.CapRep.value (map g.C.CapRep.value l.caps) l.special l.from) (drop (length l.fn.members.items) l.members.items);
  found :
      seen_members g.C.CapRep.value l.members.items
      ++ tagged_from (among l.special) l.from l.number (map g.C.CapRep.value (drop l.number l.caps))
      ≡ seen_members g.C.CapRep.value l.fn.members.items ++ tagged_from (among l.special) l.from 0 (map g.C.CapRep.value l.caps);
}
