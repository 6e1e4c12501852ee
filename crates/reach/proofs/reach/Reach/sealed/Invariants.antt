use Rattle.std.proofs.Common.{◌≡◌, ◌++◌, filter, drop}
use Rattle.cap_bounds.specs.CapValue.{is_sealed}
use Rattle.reach.proofs.reach.Reach.sealed.Given as goal

-- what is found, and what is sealed of the members that are left, make all that is
abbrev pub invariant-loop-member : goal.invariant-loop-member
invariant-loop-member g l = record {
  all : l.found.items ++ filter (λ m. is_sealed (g.C.CapRep.value m.cap)) (drop l.member-index l.self)
      ≡ filter (λ m. is_sealed (g.C.CapRep.value m.cap)) l.self;
}
