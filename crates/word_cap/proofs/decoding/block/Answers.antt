use Rattle.std.proofs.Common.{◌+◌, ◌≤◌, arith}
use Rattle.std.proofs.Math.Pow.{pow_mono}
use Rattle.word_cap.proofs.decoding.block.Goals as goal

pub returns-then-some-clause-range : goal.returns-then-some-clause-range
returns-then-some-clause-range c =
    let high : c.args.e + 14 ≤ 66 = omega arith in
    omega (arith, pow_mono high)
