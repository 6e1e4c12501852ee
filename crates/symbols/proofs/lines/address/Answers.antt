use Rattle.std.proofs.Common.{sym}
use Rattle.symbols.proofs.LineLemmas.{symbol_front}
use Rattle.symbols.proofs.lines.address.Goals as goal

pub slice_bounds-value-end : goal.slice_bounds-value-end
slice_bounds-value-end c = sym (symbol_front c.args.line.now c.requires)
