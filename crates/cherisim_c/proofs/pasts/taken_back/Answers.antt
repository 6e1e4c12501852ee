use Rattle.std.proofs.Common.{inl}
use Rattle.cherisim_c.proofs.Given.{of_memory}
use Rattle.cherisim_c.proofs.pasts.taken_back.Goals as goal

pub returns-clause-err : goal.returns-clause-err
returns-clause-err c = inl (of_memory c.args.image.now c.args.all.now)
