use Rattle.std.proofs.Common.{◌∙◌, ap}
use Rattle.assembler.specs.Places.{value_in}
use Rattle.assembler.proofs.LabelLemmas.{value_in-seen}
use Rattle.assembler.proofs.labels.Labels.value.Goals as goal

pub returns : goal.returns
returns c =
    c.copied.ensures ∙ c.get.ensures.value ∙ value_in-seen c.args.name.now c.self.inside.entries.entries
    ∙ ap (λ s. value_in s c.args.name.now) c.self.view_is
