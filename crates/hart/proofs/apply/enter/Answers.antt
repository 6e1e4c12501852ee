use Rattle.std.proofs.Common.{◌%◌, ap, ◌∙◌, arith}
use Rattle.cap_bounds.specs.CapValue.{value_address}
use Rattle.cap_bounds.specs.AddressLaws.{value_address-at_address}
use Rattle.hart.proofs.apply.enter.Goals as goal

pub set_pcc-requires : goal.set_pcc-requires
set_pcc-requires g c =
    ap (λ v. value_address v % 4) c.set_address.ensures ∙ ap (λ n. n % 4) (value_address-at_address _ c.args.target (omega arith))
    ∙ c.requires
