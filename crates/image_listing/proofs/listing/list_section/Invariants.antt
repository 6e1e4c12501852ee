use Rattle.std.proofs.Common.{◌≡◌, ℕ, ◌+◌, ◌^◌, ◌<◌, List, ◌++◌, length}
use Rattle.std.specs.Option.{option_copied}
use Rattle.std.specs.Io.KnownBytes.{Appends}
use Rattle.image_listing.specs.Listing.{lines_from, lines_of_bytes, section_lines}
use Rattle.image_listing.proofs.listing.list_section.Given as goal

-- the lines so far are written, and those of what is left come after them; no call has failed
abbrev pub invariant-loop-rest : goal.invariant-loop-rest
invariant-loop-rest g l =
    (done : List ℕ) × Appends (g.W.Sink.held l.fn.sink) (g.W.Sink.held l.sink) done
    × (done ++ lines_from (option_copied l.table) l.mode l.address l.rest ≡ section_lines (option_copied l.table) l.mode l.section)
    × (g.W.Sink.failed l.sink ≡ g.W.Sink.failed l.fn.sink)
    × (l.address + length l.rest < 2 ^ 64)

abbrev pub decreases-loop-rest : goal.decreases-loop-rest
decreases-loop-rest g l = length l.rest

abbrev pub invariant-loop-byte : goal.invariant-loop-byte
invariant-loop-byte g l =
    (done : List ℕ) × Appends (g.W.Sink.held l.fn.sink) (g.W.Sink.held l.sink) done
    × (done ++ lines_of_bytes (option_copied l.table) l.address l.rest ≡ section_lines (option_copied l.table) l.mode l.section)
    × (g.W.Sink.failed l.sink ≡ g.W.Sink.failed l.fn.sink)
    × (l.address + length l.rest < 2 ^ 64)

abbrev pub decreases-loop-byte : goal.decreases-loop-byte
decreases-loop-byte g l = length l.rest
