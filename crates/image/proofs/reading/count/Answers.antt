use Rattle.image.specs.declared.fault.ImageFault.TheVariants.{L8}
use Rattle.image.specs.Grammar.{number_at, count_fault, count_at}
use Rattle.image.proofs.Taking.{Takes-checked, CountsL10-of_bytes}
use Rattle.image.proofs.reading.count.Goals as goal

pub returns-clause-part : goal.returns-clause-part
unfolding count_at
returns-clause-part g c =
    Takes-checked 4 L8 (λ bytes. count_fault c.args.version (number_at 0 4 bytes)) (number_at 0 4) _ _
    c.in_ok-bytes.bytes c.count_in.result c.in_ok-bytes.ensures.part c.count_in.ensures.value

pub returns-clause-count : goal.returns-clause-count
returns-clause-count g c = CountsL10-of_bytes _ _ _ c.in_ok-bytes.ensures.count c.count_in.ensures.fault
