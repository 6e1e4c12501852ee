use Rattle.std.proofs.Common.{sym, subst}
use Rattle.isa_rows.specs.Operands.{IsUpperImmediate}
use Rattle.assembler.proofs.LoadLemmas.{upper_fits}
use Rattle.assembler.proofs.bytes.upper_immediate.Goals as goal

pub returns-clause-upper : goal.returns-clause-upper
returns-clause-upper c = subst IsUpperImmediate (sym c.sign_extended.ensures) (upper_fits c.wrapped.result)
