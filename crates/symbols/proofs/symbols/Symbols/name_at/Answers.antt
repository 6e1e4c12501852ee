use Rattle.std.proofs.Common.{ap, sym, ◌∙◌}
use Rattle.symbols.specs.Symbols.{name_among}
use Rattle.symbols.proofs.SourceLemmas.{labels_apart}
use Rattle.symbols.proofs.symbols.Symbols.name_at.Goals as goal

pub returns-clause-value : goal.returns-clause-value
returns-clause-value c =
    let here = c.self.inside in
    let apart = labels_apart _ _ here.labels_alone here.lines_alone in
    rw (sym c.self.view_is) (c.name_at.ensures.value ∙ ap (λ labels. name_among labels c.args.address) (sym apart))
