use Rattle.std.proofs.Common.{rules}
use Rattle.symbols.specs.Symbols.{is_label}
use Rattle.symbols.proofs.symbol.is_label.Goals as goal

pub returns-then-not-is_dot : goal.returns-then-not-is_dot
unfolding is_label
returns-then-not-is_dot c = search rules
