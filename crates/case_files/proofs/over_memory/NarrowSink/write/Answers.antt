use Rattle.std.proofs.Common.{rules}
use Rattle.case_files.proofs.over_memory.NarrowSink.write.Goals as goal

pub returns-clause-count : goal.returns-clause-count
returns-clause-count c = search rules
