use Rattle.std.proofs.Common.{◌+◌, ◌-◌, ◌*◌, ◌^◌, ◌<◌, ◌≤◌, arith}
use Rattle.std.proofs.Math.Nat.{mod-eq_of_lt}
use Rattle.std.proofs.Math.Pow.{pow_mono}
use Rattle.std.proofs.lemmas.Nat.{mul-le}
use Rattle.word_cap.proofs.WellFormedWords.{well_formed-wide, written-well_formed}
use Rattle.word_cap.proofs.well_formed.wide_is_well_formed.Goals as goal

pub returns-then-written_exponent-gt52 : goal.returns-then-written_exponent-gt52
returns-then-written_exponent-gt52 c = (
  λ t. absurd cc,
  λ well. absurd (omega (
    arith,
    c.if-written_exponent-gt52.true,
    c.written_exponent.ensures,
    written-well_formed c.args.word c.requires.exponent well,
  )),
)

pub returns : goal.returns
returns c =
    let few = rw c.written_exponent.ensures at c.if-written_exponent-gt52.false in
    let m = c.mantissas_of-mantissas.result in
    let found = c.mantissas_of-mantissas.ensures in
    let most : m.exponent - 51 ≤ 1 = omega (arith, found.exponent_range) in
    let small : (m.base + m.length) * 2 ^ (m.exponent - 51) < 2 ^ 64 =
    omega (
      arith,
      mul-le (m.base + m.length) (2 ^ (m.exponent - 51)) 24576 2 (omega (arith, found.base_range, found.length_range))
          (pow_mono most),
    ) in
    rw (mod-eq_of_lt small, found.exponent, found.base, found.length)
    (well_formed-wide c.args.word c.requires.exponent c.requires.range c.requires.reserved few)
