use Rattle.text_laws.proofs.WrittenTables.{written_correct, written_symbols}
use Rattle.text_laws.proofs.tables.written_is_read.Goals as goal

pub returns-clause-correct : goal.returns-clause-correct
returns-clause-correct c = written_correct

pub returns-clause-symbols : goal.returns-clause-symbols
returns-clause-symbols c = written_symbols
