use Rattle.std.proofs.Common.{rules}
use Rattle.special_regs.proofs.writes.write_csr.Goals as goal

pub returns-in_err-check_csr-clause-refused : goal.returns-in_err-check_csr-clause-refused
returns-in_err-check_csr-clause-refused g c = search rules

pub returns-clause-allowed : goal.returns-clause-allowed
returns-clause-allowed g c = search rules
