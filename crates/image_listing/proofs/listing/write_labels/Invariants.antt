use Rattle.std.proofs.Common.{◌≡◌, ℕ, List, ◌++◌, length}
use Rattle.std.specs.List.{flat_map}
use Rattle.std.specs.Io.KnownBytes.{Appends}
use Rattle.symbols.specs.Symbols.{names_at}
use Rattle.image_listing.specs.Named.{label_line}
use Rattle.image_listing.proofs.listing.write_labels.Given as goal

-- the labels before those that are still to come have their lines, and no call has failed
abbrev pub invariant-loop-name : goal.invariant-loop-name
invariant-loop-name g l =
    (done : List (List ℕ)) × (done ++ l.names ≡ names_at l.symbols l.address)
    × Appends (g.W.Sink.held l.initial.sink) (g.W.Sink.held l.sink) (flat_map label_line done)
    × (g.W.Sink.failed l.sink ≡ g.W.Sink.failed l.initial.sink)

abbrev pub decreases-loop-name : goal.decreases-loop-name
decreases-loop-name g l = length l.names
