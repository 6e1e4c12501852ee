use Rattle.commands.proofs.Filing.{seen_labels-entries}
use Rattle.commands.proofs.programs.own_labels.Goals as goal

pub returns-clause-ok : goal.returns-clause-ok
returns-clause-ok c =
    let entries = c.symbols.result.now.entries in
    rw (c.deref.ensures.value, c.in_ok-table.ensures, seen_labels-entries entries, c.symbols.ensures) at c.table_in.ensures.symbols

pub returns-clause-err : goal.returns-clause-err
returns-clause-err c =
    let entries = c.symbols.result.now.entries in
    rw (c.deref.ensures.value, c.in_ok-table.ensures, seen_labels-entries entries, c.symbols.ensures) at c.table_in.ensures.err
