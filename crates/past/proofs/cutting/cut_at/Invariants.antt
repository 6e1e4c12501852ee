use Rattle.std.proofs.Common.{◌≡◌, ◌++◌, drop, take}
use Rattle.past.specs.Given.{first_of}
use Rattle.past.proofs.cutting.cut_at.Given as goal

-- the commands so far, and the first events that are left of the others
abbrev pub invariant-loop-given : goal.invariant-loop-given
invariant-loop-given l = record {
  first : first_of l.n l.all ≡ take l.whole l.all ++ first_of l.left (drop l.whole l.all);
  whole : l.whole ≡ l.given-index;
}
