use Rattle.std.proofs.Common.{◌≡◌, map}
use Rattle.std.specs.Map.Iter.{deref_pair}
use Rattle.sim_run.specs.Profile.{share}
use Rattle.sim_run.proofs.tally.ranked.Given as goal

-- the shares are those of the places so far
abbrev pub invariant-loop-place : goal.invariant-loop-place
invariant-loop-place l = l.shares.items ≡ map share (map deref_pair l.yielded)
