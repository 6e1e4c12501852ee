use Rattle.std.proofs.Common.{◌≡◌, ◌+◌, subst, arith}
use Rattle.std.specs.Prelude.{◌≢◌, Result, Ok, Err, IfErr}
use Rattle.image.specs.Image.{Image}
use Rattle.image.specs.Reads.{CountsL10}
use Rattle.image.specs.declared.fault.ImageFault.{ImageFault}
use Rattle.image.specs.declared.fault.ImageFault.TheVariants.{L10}
use Rattle.cherisim_c.proofs.life.image_of_bytes.Goals as goal

-- where no failure is counted, no call failed
none-failed : (answer : Result Image ImageFault) → CountsL10 0 0 answer → IfErr answer (λ fault. fault ≢ L10)
none-failed (Ok image) same = tt
none-failed (Err fault) same = λ is.
    let Counts : ImageFault → Type 0 = λ f. CountsL10 {X = Image} 0 0 (Err f) in
    let more : 0 ≡ 0 + 1 = subst Counts is same in
    omega arith

pub returns-clause-read : goal.returns-clause-read
returns-clause-read c = none-failed c.read.result c.read.ensures.count
