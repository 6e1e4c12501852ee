use Rattle.std.proofs.Common.{◌≡◌, ◌++◌, drop}
use Rattle.std.specs.List.{flat_map}
use Rattle.std.specs.Prelude.{string_bytes}
use Rattle.reach_texts.specs.Summary.{range_line}
use Rattle.reach_texts.proofs.opened.append_ranges.Given as goal

-- what is written and the lines of the ranges that are left make all lines
abbrev pub invariant-loop-range : goal.invariant-loop-range
invariant-loop-range g l =
    string_bytes l.lines ++ flat_map (range_line l.symbols l.right) (drop l.range-index l.range-items)
    ≡ flat_map (range_line l.symbols l.right) l.range-items
