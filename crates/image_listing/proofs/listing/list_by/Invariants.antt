use Rattle.std.proofs.Common.{◌≡◌, take}
use Rattle.std.specs.List.{flat_map}
use Rattle.std.specs.Option.{option_copied}
use Rattle.std.specs.Io.KnownBytes.{Appends}
use Rattle.image_listing.specs.Listing.{section_lines}
use Rattle.image_listing.proofs.listing.list_by.Given as goal

-- the sections before this one are listed, and no call has failed
abbrev pub invariant-loop-section : goal.invariant-loop-section
invariant-loop-section g l = record {
  written : Appends (g.W.Sink.held l.initial.sink) (g.W.Sink.held l.sink)
      (flat_map (section_lines (option_copied l.table) l.image.mode) (take l.section-index l.image.sections));
  count : g.W.Sink.failed l.sink ≡ g.W.Sink.failed l.initial.sink;
}
