use Rattle.std.proofs.Common.{rules}
use Rattle.special_regs.specs.Writes.{csrs_written, views_written, scr_written}
use Rattle.special_regs.proofs.parts.set_csr.Goals as goal

pub returns-in-833-clause-scrs : goal.returns-in-833-clause-scrs
unfolding csrs_written views_written scr_written
returns-in-833-clause-scrs g c = search rules
