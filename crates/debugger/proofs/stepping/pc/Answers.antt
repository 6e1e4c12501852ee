use Rattle.std.proofs.Common.{rules}
use Rattle.special_regs.specs.Scrs.{scr_value}
use Rattle.debugger.proofs.stepping.pc.Goals as goal

pub returns : goal.returns
unfolding scr_value
returns g c = search rules
