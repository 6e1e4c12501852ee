use Rattle.std.proofs.Common.{◌≤◌, ◌+◌, arith}
use Rattle.std.proofs.Math.Pow.{pow_mono}
use Rattle.cap_bounds.proofs.rounding.granule_at.Goals as goal

pub returns-clause-size : goal.returns-clause-size
returns-clause-size c =
    let small : c.args.e + 3 ≤ 55 = omega arith in
    omega (arith, c.power.ensures.value, pow_mono small)
