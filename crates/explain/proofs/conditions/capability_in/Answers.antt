use Rattle.std.proofs.Common.{◌-◌, ◌≤◌, ◌<◌, ◌∙◌, arith}
use Rattle.explain.proofs.NoRegister.{no_register}
use Rattle.explain.proofs.conditions.capability_in.Goals as goal

pub returns-in-Err : goal.returns-in-Err
returns-in-Err g c =
    let special : 32 ≤ c.args.register = c.if-register-lt-FIRST_SPECIAL.false in
    let large : c.args.register - 32 < 256 → ⊥ = c.in-Err.ensures in
    c.integer-in-Err.ensures ∙ no_register c.args.hart.now c.args.register (omega (arith, large, special))
