use Rattle.std.proofs.Common.{rules}
use Rattle.symbols.proofs.symbol.Symbol.address.Goals as goal

pub returns : goal.returns
returns c = search rules
