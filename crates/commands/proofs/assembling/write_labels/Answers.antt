use Rattle.commands.proofs.Filing.{seen_labels-entries}
use Rattle.commands.proofs.assembling.write_labels.Goals as goal

pub returns-in-Ok-clause-ok : goal.returns-in-Ok-clause-ok
returns-in-Ok-clause-ok g c =
    let entries = c.symbols.result.now.entries in
    rw (c.deref.ensures.value, c.in-Ok.ensures, seen_labels-entries entries, c.symbols.ensures) at c.write_bytes.ensures.ok
