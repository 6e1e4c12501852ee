use Rattle.std.proofs.Common.{rules}
use Rattle.asm_names.specs.TrapNames.{cheri_asked_name}
use Rattle.asm_names.proofs.trap_names.cheri_asked_name.Goals as goal

pub returns : goal.returns
unfolding cheri_asked_name
returns c = search rules
