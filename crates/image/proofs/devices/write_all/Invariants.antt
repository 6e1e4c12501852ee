use Rattle.std.proofs.Common.{◌≡◌, ◌≤◌, ◌-◌, length, take}
use Rattle.std.specs.Io.KnownBytes.{Appends}
use Rattle.image.proofs.devices.write_all.Given as goal

-- the bytes before `at` are written, and no call has failed
abbrev pub invariant-loop-at : goal.invariant-loop-at
invariant-loop-at g l = record {
  within : l.at ≤ length l.bytes;
  written : Appends (g.W.Sink.held l.initial.sink) (g.W.Sink.held l.sink) (take l.at l.bytes);
  count : g.W.Sink.failed l.sink ≡ g.W.Sink.failed l.initial.sink;
}

abbrev pub decreases-loop-at : goal.decreases-loop-at
decreases-loop-at g l = length l.bytes - l.at
