use Rattle.std.proofs.Common.{◌≡◌, take}
use Rattle.std.specs.List.{flat_map}
use Rattle.std.specs.Io.KnownBytes.{Appends}
use Rattle.image_listing.specs.Header.{capability_line}
use Rattle.image_listing.proofs.header.write_capabilities.Given as goal

-- the capabilities before this one are written, and no call has failed
abbrev pub invariant-loop-capability : goal.invariant-loop-capability
invariant-loop-capability g l = record {
  written : Appends (g.W.Sink.held l.initial.sink) (g.W.Sink.held l.sink)
      (flat_map capability_line (take l.capability-index l.capabilities));
  count : g.W.Sink.failed l.sink ≡ g.W.Sink.failed l.initial.sink;
}
