use Rattle.std.proofs.Common.{◌≡◌, List, ℕ}
use Rattle.std.proofs.lemmas.Result.{err_from_is_err_and}
use Rattle.image.specs.declared.fault.ImageFault.TheVariants.{L8}
use Rattle.image.specs.declared.parts.Span.{Span}
use Rattle.image.specs.Image.{Section}
use Rattle.image.specs.Grammar.{taken, span_at, section_at}
use Rattle.image.proofs.Taking.{Got-both, Stopped-second}
use Rattle.image.proofs.reading.section.Goals as goal

-- the section at an address, of a body
abbrev placed : Span → List ℕ → Section
placed span body = record { address = span.address; bytes = body }

section_is : (s : Section) (address : ℕ) (bytes : List ℕ) → s.address ≡ address → s.bytes ≡ bytes
    → s ≡ record { address = address; bytes = bytes }
section_is s address bytes p q = λ i. record { address = p i; bytes = q i }

pub returns-in_err-bytes-clause-part : goal.returns-in_err-bytes-clause-part
unfolding section_at
returns-in_err-bytes-clause-part g c =
    let p = err_from_is_err_and c.from_residual-in_err-bytes.result c.from_residual-in_err-bytes.ensures.1 in
    rw (p.1, p.2)
    (Stopped-second (span_at c.args.pages c.args.free) (λ (span : Span). taken span.size L8) placed _ _ _ c.in_ok-span.span _
    c.in_ok-span.ensures.part c.in_err-bytes.ensures.part)

pub returns-clause-part : goal.returns-clause-part
unfolding section_at
returns-clause-part g c =
    let span = c.in_ok-span.span in
    let made : c.new.result ≡ placed span c.in_ok-bytes.bytes.items = section_is _ _ _ c.new.ensures.address c.new.ensures.bytes in
    Got-both (span_at c.args.pages c.args.free) (λ (span : Span). taken span.size L8) placed _ _ _ span c.in_ok-bytes.bytes.items
    c.new.result made c.in_ok-span.ensures.part c.in_ok-bytes.ensures.part
