use Rattle.std.proofs.Common.{◌≤◌, ◌+◌, arith}
use Rattle.std.proofs.Math.Pow.{pow_mono}
use Rattle.cap_bounds.proofs.decode.step.Goals as goal

pub returns-clause-range : goal.returns-clause-range
returns-clause-range c =
    let small : c.args.e + 11 ≤ 61 = omega arith in
    omega (arith, c.power.ensures.value, pow_mono small)
