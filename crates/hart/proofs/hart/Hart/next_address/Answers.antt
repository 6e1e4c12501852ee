use Rattle.std.proofs.Common.{◌+◌, ◌%◌, ◌^◌, ap, ◌∙◌}
use Rattle.cap_bounds.specs.CapValue.{value_address}
use Rattle.steps.specs.State.{State, pc_of}
use Rattle.hart.proofs.hart.Hart.next_address.Goals as goal

pub returns : goal.returns
returns g c =
    ap (λ a. (a + 4) % 2 ^ 64) (c.address.ensures ∙ ap value_address c.pcc.ensures.value ∙ ap (λ (s : State). pc_of s) c.self.view_is)
