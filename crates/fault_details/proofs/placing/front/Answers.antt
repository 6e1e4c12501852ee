use Rattle.std.proofs.Common.{arith, sym}
use Rattle.std.proofs.lemmas.List.{take_all}
use Rattle.fault_details.proofs.placing.front.Goals as goal

pub returns-in-None : goal.returns-in-None
returns-in-None c = sym (take_all 100 c.args.text.now (omega (arith, c.in-None.ensures)))
