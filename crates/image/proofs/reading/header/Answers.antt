use Rattle.image.specs.declared.fault.ImageFault.TheVariants.{L1}
use Rattle.image.specs.Grammar.{header_fault, header_of, header_at}
use Rattle.image.proofs.Taking.{Takes-checked, CountsL10-of_bytes}
use Rattle.image.proofs.reading.header.Goals as goal

pub returns-clause-part : goal.returns-clause-part
unfolding header_at
returns-clause-part g c =
    Takes-checked 32 L1 header_fault header_of _ _ c.in_ok-bytes.bytes c.header_in.result
    c.in_ok-bytes.ensures.part c.header_in.ensures.value

pub returns-clause-count : goal.returns-clause-count
returns-clause-count g c = CountsL10-of_bytes _ _ _ c.in_ok-bytes.ensures.count c.header_in.ensures.fault
