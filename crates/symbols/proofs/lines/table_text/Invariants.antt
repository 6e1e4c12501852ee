use Rattle.std.proofs.Common.{◌≡◌, ◌-◌, ◌++◌, drop, length}
use Rattle.symbols.specs.Reads.{seen_entries}
use Rattle.symbols.specs.Symbols.{table_text}
use Rattle.symbols.proofs.lines.table_text.Given as goal

-- the lines so far and those of the symbols that are left
abbrev pub invariant-loop-name : goal.invariant-loop-name
invariant-loop-name l =
    l.text.items ++ table_text (seen_entries (drop l.index l.symbols.entries)) ≡ table_text (seen_entries l.symbols.entries)

abbrev pub decreases-loop-name : goal.decreases-loop-name
decreases-loop-name l = length l.symbols.entries - l.index
