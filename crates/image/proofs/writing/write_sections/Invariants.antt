use Rattle.std.proofs.Common.{◌≡◌, take}
use Rattle.std.specs.List.{flat_map}
use Rattle.std.specs.Io.KnownBytes.{Appends}
use Rattle.image.specs.Grammar.{section_bytes}
use Rattle.image.proofs.writing.write_sections.Given as goal

-- the sections before this one are written, and no call has failed
abbrev pub invariant-loop-section : goal.invariant-loop-section
invariant-loop-section g l = record {
  written : Appends (g.W.Sink.held l.initial.sink) (g.W.Sink.held l.sink) (flat_map section_bytes (take l.section-index l.sections));
  count : g.W.Sink.failed l.sink ≡ g.W.Sink.failed l.initial.sink;
}
