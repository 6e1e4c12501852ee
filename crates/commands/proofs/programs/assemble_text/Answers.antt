use Rattle.std.proofs.Common.{inr}
use Rattle.commands.proofs.Sources.{faulty}
use Rattle.commands.proofs.programs.assemble_text.Goals as goal

pub returns-clause-err : goal.returns-clause-err
returns-clause-err g c =
    let text = c.in_ok-text.text.items in
    let found = rw c.as_slice.ensures.value at c.in-Err.ensures.fault in
    let told = rw c.deref.ensures.value at c.faulty_text.ensures in
    inr (text, c.in_ok-text.ensures.ok, faulty c.args.name.now text c.in-Err.stopped.fault c.faulty_text.result found told)
