use Rattle.std.proofs.Common.{arith, ◌≡◌, ◌-◌, ◌<◌, ◌≤◌, ℕ, List, ◌++◌, length, Err, refl}
use Rattle.std.proofs.KnownBytes.{Consumes-trans}
use Rattle.std.proofs.lemmas.Bool.{lt-ltb}
use Rattle.std.proofs.lemmas.List.{length-append}
use Rattle.std.proofs.lemmas.Result.{err_from_is_err_and}
use Rattle.image.specs.declared.fault.ImageFault.TheVariants.{L8}
use Rattle.image.specs.Grammar.{taken}
use Rattle.image.proofs.Taking.{after_known}
use Rattle.image.proofs.reading.body.Goals as goal

-- bytes that are there, and too few after them
cut_short : (size count : ℕ) (bytes rest : List ℕ) → count ≤ size - length bytes → length rest < count
    → taken size L8 (bytes ++ rest) ≡ Err L8
cut_short size count bytes rest within few =
    rw (lt-ltb (length (bytes ++ rest)) size (simp length-append (omega (arith, within, few)))) refl

pub returns-in_err-read_behind-clause-part : goal.returns-in_err-read_behind-clause-part
returns-in_err-read_behind-clause-part g c =
    let p = err_from_is_err_and c.from_residual.result c.from_residual.ensures.1 in
    let before = c.loop-bytes.invariant.read in
    let bytes = c.loop-bytes.bytes.items in
    let here = c.in_err-read_behind.ensures.err in
    let within : c.next_block-count.result ≤ c.args.size - length bytes
    = omega (arith, c.next_block-count.ensures, c.len-in-loop-bytes.ensures) in
    rw (p.1, p.2) (
      (bytes ++ here.0, Consumes-trans _ _ _ bytes here.0 before here.1),
      λ of_bytes.
          let fault = c.in_err-read_behind.ensures.fault of_bytes in
          rw fault.0 (after_known _ _ bytes (λ rest. length rest < c.next_block-count.result)
          (λ all. taken c.args.size L8 all ≡ Err L8) before
          (λ rest few. cut_short c.args.size c.next_block-count.result bytes rest within few) fault.1),
    )
