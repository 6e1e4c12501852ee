use Rattle.std.proofs.Common.{refl, inl, inr}
use Rattle.std.proofs.lemmas.Result.{IfErr-weaker}
use Rattle.commands.specs.Assembling.FailsToAssemble.{at_lines, at_output, at_text}
use Rattle.commands.proofs.Sources.{faulty}
use Rattle.commands.proofs.assembling.assemble_file.Goals as goal

pub returns-in-Ok-clause-err : goal.returns-in-Ok-clause-err
returns-in-Ok-clause-err g c =
    let text = c.in_ok-text.text.items in
    let correct = rw c.as_slice.ensures.value at c.in-Ok.ensures.correct in
    let told = rw c.deref.ensures.value at c.write_all.ensures.err in
    IfErr-weaker c.write_all.result _ _
    (λ fault why. elim why [
      | inl cut ↦ at_output text c.in_ok-text.ensures.ok correct cut
      | inr late ↦ at_lines text late.0 c.in_ok-text.ensures.ok correct late.1 late.2
    ]) told

pub returns-clause-err : goal.returns-clause-err
returns-clause-err g c =
    let text = c.in_ok-text.text.items in
    let found = rw c.as_slice.ensures.value at c.in-Err.ensures.fault in
    let told = rw c.deref-in-Err.ensures.value at c.faulty_text.ensures in
    at_text text c.in_ok-text.ensures.ok (faulty c.args.input.now text c.in-Err.stopped.fault c.faulty_text.result found told) refl
