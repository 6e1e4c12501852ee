use Rattle.std.proofs.Common.{◌%◌, ap, sym, subst, ◌∙◌}
use Rattle.steps.specs.State.{HoldsCapabilities}
use Rattle.cap_bounds.specs.CapValue.{value_address}
use Rattle.image.specs.ImageLaws.{entry_aligned}
use Rattle.hart.proofs.hart.Hart.new.Goals as goal

pub new-requires-2 : goal.new-requires-2
new-requires-2 g c =
    ap (λ v. value_address v % 4) c.root_value.ensures ∙ ap (λ n. n % 4) c.entry.ensures.value
    ∙ entry_aligned c.args.image.now c.entry.ensures.valid

pub invariant_of-hart : goal.invariant_of-hart
invariant_of-hart g c = subst HoldsCapabilities (sym c.in_ok-new.ensures) c.in_ok-memory.ensures.capabilities
