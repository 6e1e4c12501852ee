use Rattle.std.proofs.Common.{◌-◌, ◌^◌, map}
use Rattle.reached.specs.Links.{AreLinked}
use Rattle.reached.specs.Order.{seen_members}
use Rattle.reached.specs.Findings.{IsLeftBy}
use Rattle.reached.proofs.Finding.{GoesOn}
use Rattle.reached.specs.Search.{IsSearch}
use Rattle.reached.proofs.search.closure.Given as goal

abbrev pub invariant-loop-index : goal.invariant-loop-index
invariant-loop-index g l = record {
  search :
      IsSearch (map g.C.CapRep.value l.roots) (map g.C.CapRep.value l.specials) l.memory (map (λ m. g.C.CapRep.value m.cap) l.members.items)
      l.left.items l.opened.system l.opened.bare.first l.opened.bare.end l.index;
  linked : AreLinked g.C.CapRep.value (map g.C.CapRep.value l.roots) (map g.C.CapRep.value l.specials) l.memory l.members.items;
  left :
      IsLeftBy (map g.C.CapRep.value l.specials) l.memory (seen_members g.C.CapRep.value l.members.items) l.left.items l.opened.system;
  found :
      GoesOn (map g.C.CapRep.value l.roots) (map g.C.CapRep.value l.specials) l.memory (seen_members g.C.CapRep.value l.members.items)
      l.index;
}

abbrev pub decreases-loop-index : goal.decreases-loop-index
decreases-loop-index g l = 2 ^ 64 - l.index
