use Rattle.std.proofs.Common.{◌≡◌, not, true, ap, subst, sym}
use Rattle.std.specs.Prelude.{◌↔◌}
use Rattle.reach.specs.Ranges.{IsInOne}
use Rattle.policy.specs.Tests.{is_in_one}
use Rattle.policy.proofs.Tests.{in-it, same_test}
use Rattle.policy.proofs.breach.is_left_out.Goals as goal

pub returns : goal.returns
returns c =
    let ranges = c.args.ranges.now in
    let a = c.args.address in
    ap not (same_test c.holds.result (is_in_one ranges a) c.holds.ensures
    (subst (λ n. (is_in_one ranges a ≡ true) ↔ IsInOne ranges n) (sym c.from.ensures) (in-it ranges a)))
