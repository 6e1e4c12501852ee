use Rattle.std.proofs.Common.{◌≤◌, ◌^◌, arith}
use Rattle.std.proofs.Math.Nat.{pow-le-pow_right}
use Rattle.assembler.proofs.places.power.Goals as goal

pub returns-clause-bound : goal.returns-clause-bound
returns-clause-bound c = let p : 2 ^ c.args.bits ≤ 2 ^ 12 = pow-le-pow_right {n = 2} (omega arith) c.requires in omega arith
