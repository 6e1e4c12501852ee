use Rattle.std.proofs.Common.{◌≡◌, map, take}
use Rattle.reached.specs.Order.{seen_members}
use Rattle.cherisim_c.specs.Reaching.{shown_member, c_member}
use Rattle.cherisim_c.proofs.reaching.fill.Given as goal

-- the members so far
abbrev pub invariant-loop-number : goal.invariant-loop-number
invariant-loop-number g l =
    map shown_member (take l.number l.members) ≡ map c_member (seen_members g.C.CapRep.value (take l.number l.found))
