use Rattle.std.proofs.Common.{◌≡◌, ◌+◌, ◌*◌, ◌%◌, ◌-◌, ◌<◌, ◌^◌, ap, sym, ◌∙◌, arith}
use Rattle.std.proofs.Math.Pow.{pow_mono}
use Rattle.std.proofs.Math.Nat.{mod-eq_of_lt}
use Rattle.std.proofs.lemmas.Nat.{and_mask, mul-le}
use Rattle.base.specs.Bits.{bit}
use Rattle.cap_bounds.specs.WordLaws.{bit-small}
use Rattle.word_cap.proofs.Corrections.{unrounded, corrected_top-unrounded}
use Rattle.word_cap.proofs.decoding.corrected_top.Goals as goal

pub returns-clause-value : goal.returns-clause-value
returns-clause-value c =
    let e = c.args.e in
    let most = c.requires.exponent in
    let small : c.args.t * 2 ^ c.args.e < 2 ^ 128 =
    omega (arith, mul-le c.args.t (2 ^ c.args.e) 16383 (2 ^ 52) (omega arith) (pow_mono most)) in
    let total : c.block_start.result + c.block.result + c.from.result * 2 ^ c.args.e % 2 ^ 128 + 2 ^ 66 - c.block-2.result
    ≡ unrounded c.args.e c.args.address (bit c.args.top_high) (bit c.args.address_high) c.args.t =
    rw (c.block_start.ensures.value, c.block.ensures.value, c.from.ensures, mod-eq_of_lt small, c.block-2.ensures.value) (omega arith) in
    and_mask _ 65 ∙ ap (λ n. n % 2 ^ 65) total
    ∙ sym (corrected_top-unrounded e c.args.address (bit c.args.top_high) (bit c.args.address_high) c.args.t most
    (omega (arith, bit-small c.args.address_high)))
