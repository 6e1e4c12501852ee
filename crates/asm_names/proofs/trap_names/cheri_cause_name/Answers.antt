use Rattle.std.proofs.Common.{rules}
use Rattle.asm_names.specs.TrapNames.{cheri_cause_name}
use Rattle.asm_names.proofs.trap_names.cheri_cause_name.Goals as goal

pub returns : goal.returns
unfolding cheri_cause_name
returns c = search rules
