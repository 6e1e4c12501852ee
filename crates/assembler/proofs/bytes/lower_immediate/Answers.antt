use Rattle.std.proofs.Common.{rules}
use Rattle.assembler.proofs.bytes.lower_immediate.Goals as goal

pub returns-clause-signed : goal.returns-clause-signed
returns-clause-signed c = search rules
