use Rattle.std.proofs.Common.{List, length}
use Rattle.std.specs.Prelude.{string_bytes}
use Rattle.origin_texts.specs.Held.{IsStretch, newest_first}
use Rattle.origin_texts.specs.Stretches.{Told}
use Rattle.origin_texts.proofs.links.put_told.Given as goal
use Rattle.origin_texts.proofs.Telling.{IsMeeting}

abbrev pub invariant-loop-newest : goal.invariant-loop-newest
invariant-loop-newest l = (first : List Told) → IsStretch l.fn.stretch first
    → IsMeeting (string_bytes l.fn.text) (string_bytes l.text) l.stretch first (newest_first l.fn.told.items) (newest_first l.left.items)

abbrev pub decreases-loop-newest : goal.decreases-loop-newest
decreases-loop-newest l = length l.left.items
