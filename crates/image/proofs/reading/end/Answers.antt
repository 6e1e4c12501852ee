use Rattle.std.proofs.Common.{rules}
use Rattle.image.proofs.reading.end.Goals as goal

pub returns-then-branch-gt0-clause-ok : goal.returns-then-branch-gt0-clause-ok
returns-then-branch-gt0-clause-ok g c = search rules

pub returns-then-branch-gt0-clause-end : goal.returns-then-branch-gt0-clause-end
returns-then-branch-gt0-clause-end g c = search rules
