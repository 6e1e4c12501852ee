use Rattle.std.proofs.Common.{arith, sym}
use Rattle.std.proofs.lemmas.List.{take_all}
use Rattle.symbols.proofs.sources.kept.Goals as goal

pub returns-in-None : goal.returns-in-None
returns-in-None c = sym (take_all 240 c.args.place.now (omega (arith, c.in-None.ensures)))
