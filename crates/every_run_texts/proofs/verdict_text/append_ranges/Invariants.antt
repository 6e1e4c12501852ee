use Rattle.std.proofs.Common.{◌≡◌, ◌++◌, drop}
use Rattle.std.specs.List.{flat_map}
use Rattle.std.specs.Prelude.{string_bytes}
use Rattle.every_run_texts.specs.Text.{any_line}
use Rattle.every_run_texts.proofs.verdict_text.append_ranges.Given as goal

abbrev pub invariant-loop-range : goal.invariant-loop-range
invariant-loop-range l =
    string_bytes l.text ++ flat_map (any_line l.symbols) (drop l.range-index l.any)
    ≡ string_bytes l.fn.text ++ flat_map (any_line l.fn.symbols) l.any
