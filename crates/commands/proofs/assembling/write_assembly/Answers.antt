use Rattle.std.proofs.lemmas.Result.{IfErr-weaker}
use Rattle.commands.specs.Assembling.FailsToWrite.{at_labels}
use Rattle.commands.proofs.assembling.write_assembly.Goals as goal

pub returns-in-Some-clause-err : goal.returns-in-Some-clause-err
returns-in-Some-clause-err g c =
    let written = rw c.image.ensures at c.in_ok-write_image.ensures.ok in
    IfErr-weaker c.write_labels.result _ _ (λ fault cut. rw c.in-Some.is (at_labels _ written cut)) c.write_labels.ensures.err
