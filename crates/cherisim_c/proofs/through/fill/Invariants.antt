use Rattle.std.proofs.Common.{◌≡◌, map, take}
use Rattle.cherisim_c.specs.Reaching.{c_door}
use Rattle.cherisim_c.proofs.through.fill.Given as goal

-- the doors so far
abbrev pub invariant-loop-number : goal.invariant-loop-number
invariant-loop-number l = take l.number l.doors ≡ map c_door (take l.number l.found)
