use Rattle.std.proofs.Common.{◌≡◌, ◌+◌, ◌*◌, ◌%◌, ◌^◌, ◌≤◌, refl, arith}
use Rattle.std.proofs.Math.Pow.{pow_mono}
use Rattle.std.proofs.lemmas.Nat.{pow-add, pow_pos}
use Rattle.word_cap.proofs.rounding.granule_mask.Goals as goal
use Rattle.word_cap.proofs.rounding.granule_mask.Goals.{Start}

granule : (c : Start) → 8 * 2 ^ c.args.e % 2 ^ 64 ≡ 2 ^ (c.args.e + 3)
granule c = let most : c.args.e ≤ 52 = omega arith in omega (arith, pow_mono most, pow-add 2 c.args.e 3)

pub overflow_sub-result : goal.overflow_sub-result
overflow_sub-result c = rw (granule c) (pow_pos (c.args.e + 3))

pub returns-clause-value : goal.returns-clause-value
returns-clause-value c = rw (granule (goal.at.returns-clause-value c).Start) refl

pub returns-clause-range : goal.returns-clause-range
returns-clause-range c =
    let most : c.args.e + 3 ≤ 55 = omega arith in
    rw (granule (goal.at.returns-clause-range c).Start) (omega (arith, pow_mono most, pow_pos (c.args.e + 3)))
