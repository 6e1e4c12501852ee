use Rattle.std.proofs.Common.{sym, ◌∙◌, ◌+◌, ◌*◌, ◌^◌, ◌%◌, ◌<◌, arith}
use Rattle.std.proofs.Math.Pow.{pow_mono}
use Rattle.std.proofs.Math.Nat.{mod-eq_of_lt}
use Rattle.std.proofs.lemmas.Nat.{and_mask, mul-le}
use Rattle.cap_bounds.specs.BaseLaws.{decoded_top-low, decoded_top-high}
use Rattle.word_cap.proofs.decoding.top_at.Goals as goal

pub returns-then-e-le50-clause-value : goal.returns-then-e-le50-clause-value
returns-then-e-le50-clause-value c =
    let e = c.args.e in
    let l = c.args.l in
    let low = c.if-e-le50.true in
    let small : c.args.l * 2 ^ c.args.e < 2 ^ 64 =
    omega (arith, mul-le c.args.l (2 ^ c.args.e) 8191 (2 ^ 50) (omega arith) (pow_mono low)) in
    rw (c.from-then-e-le50.ensures, mod-eq_of_lt small, c.from.ensures, c.base_at.ensures)
    (sym (decoded_top-low e c.args.b l c.args.address low))

pub returns-else-e-le50-clause-value : goal.returns-else-e-le50-clause-value
returns-else-e-le50-clause-value c =
    let e = c.args.e in
    let sum = c.args.b + c.args.l in
    let most = c.requires.exponent in
    let small : (c.args.b + c.args.l) * 2 ^ c.args.e < 2 ^ 128 =
    omega (arith, mul-le (c.args.b + c.args.l) (2 ^ c.args.e) 24575 (2 ^ 52) (omega arith) (pow_mono most)) in
    and_mask (c.from-else-e-le50.result * 2 ^ e % 2 ^ 128) 65
    ∙ rw (c.from-else-e-le50.ensures, mod-eq_of_lt small) (sym (decoded_top-high e c.args.b c.args.l c.args.address c.if-e-le50.false))
