use Rattle.std.proofs.Common.{◌≡◌, drop}
use Rattle.symbols.specs.Symbols.{address_among}
use Rattle.symbols.proofs.table.Table.address_of.Given as goal

-- no symbol before this one has the name
abbrev pub invariant-loop-symbol : goal.invariant-loop-symbol
invariant-loop-symbol l = address_among (drop l.symbol-index l.symbol-items) l.name ≡ address_among l.symbol-items l.name
