use Rattle.special_regs.specs.Traps.{aligned}
use Rattle.std.proofs.Common.{◌≡◌, ◌*◌, ◌/◌, ◌%◌, ◌^◌, ◌<◌, ap, ◌∙◌, arith, rules}
use Rattle.cap_bounds.specs.CapValue.{value_address}
use Rattle.cap_bounds.specs.AddressLaws.{value_address-at_address}
use Rattle.special_regs.proofs.traps.target.Goals as goal

pub returns-else-address-eq0-clause-aligned : goal.returns-else-address-eq0-clause-aligned
returns-else-address-eq0-clause-aligned g c =
    let rounded : c.address-address.result / 4 * 4 < 2 ^ 64 = omega arith in
    let moved = ap value_address c.set_address.ensures ∙ value_address-at_address _ (c.address-address.result / 4 * 4) rounded in
    let multiple : c.address-address.result / 4 * 4 % 4 ≡ 0 = omega arith in
    ap (λ n. n % 4) moved ∙ multiple

pub returns-else-address-eq0-clause-value : goal.returns-else-address-eq0-clause-value
unfolding aligned
returns-else-address-eq0-clause-value g c = search rules
