use Rattle.std.proofs.Common.{ap, ◌∙◌}
use Rattle.cap_bounds.specs.CapValue.{is_tagged}
use Rattle.tagged_memory.specs.Memory.{has_tag, word_at}
use Rattle.origins.specs.Places.{held}
use Rattle.origins.proofs.Values.{tagged-value_of}
use Rattle.origins.proofs.tags.is_tagged_at.Goals as goal

pub returns : goal.returns
unfolding held
returns g c =
    c.tag.ensures
    ∙ ap is_tagged c.held.ensures.value
    ∙ tagged-value_of (word_at c.args.machine.now.memory c.args.address) (has_tag c.args.machine.now.memory c.args.address)
