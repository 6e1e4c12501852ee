use Rattle.image.specs.declared.fault.ImageFault.TheVariants.{L8}
use Rattle.image.specs.Image.{span_fault}
use Rattle.image.specs.Grammar.{span_of, span_at}
use Rattle.image.proofs.Taking.{Takes-checked, CountsL10-of_bytes}
use Rattle.image.proofs.reading.span.Goals as goal

pub returns-clause-part : goal.returns-clause-part
unfolding span_at
returns-clause-part g c =
    Takes-checked 16 L8 (λ bytes. span_fault c.args.pages c.args.free (span_of bytes).address (span_of bytes).size) span_of _ _
    c.in_ok-bytes.bytes c.span_in.result c.in_ok-bytes.ensures.part c.span_in.ensures.value

pub returns-clause-count : goal.returns-clause-count
returns-clause-count g c = CountsL10-of_bytes _ _ _ c.in_ok-bytes.ensures.count c.span_in.ensures.fault
