use Rattle.std.proofs.Common.{◌≡◌, ◌≤◌, ◌-◌, length}
use Rattle.std.specs.Io.KnownBytes.{Consumes}
use Rattle.image.proofs.reading.body.Given as goal

-- what is there was read, and no call has failed
abbrev pub invariant-loop-bytes : goal.invariant-loop-bytes
invariant-loop-bytes g l = record {
  within : length l.bytes.items ≤ l.size;
  read : Consumes (g.R.Source.left l.initial.source) (g.R.Source.left l.source) l.bytes.items;
  count : g.R.Source.failed l.source ≡ g.R.Source.failed l.initial.source;
}

abbrev pub decreases-loop-bytes : goal.decreases-loop-bytes
decreases-loop-bytes g l = l.size - length l.bytes.items
