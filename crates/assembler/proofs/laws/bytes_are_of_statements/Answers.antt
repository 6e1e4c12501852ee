use Rattle.assembler.proofs.PieceLemmas.{bytes-same, bytes-once}
use Rattle.assembler.proofs.laws.bytes_are_of_statements.Goals as goal

pub returns-clause-same : goal.returns-clause-same
returns-clause-same c = bytes-same

pub returns-clause-once : goal.returns-clause-once
returns-clause-once c = bytes-once
