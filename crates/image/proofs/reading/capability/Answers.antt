use Rattle.image.specs.declared.fault.ImageFault.TheVariants.{L8}
use Rattle.image.specs.Image.{capability_fault}
use Rattle.image.specs.Grammar.{capability_in, capability_at}
use Rattle.image.proofs.Taking.{Takes-checked, CountsL10-of_bytes}
use Rattle.image.proofs.reading.capability.Goals as goal

pub returns-clause-part : goal.returns-clause-part
unfolding capability_at
returns-clause-part g c =
    Takes-checked 32 L8 (λ bytes. capability_fault c.args.pages c.args.before (capability_in bytes)) capability_in _ _
    c.in_ok-bytes.bytes c.capability_of.result c.in_ok-bytes.ensures.part c.capability_of.ensures.value

pub returns-clause-count : goal.returns-clause-count
returns-clause-count g c = CountsL10-of_bytes _ _ _ c.in_ok-bytes.ensures.count c.capability_of.ensures.fault
