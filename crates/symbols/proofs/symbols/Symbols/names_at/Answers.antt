use Rattle.std.proofs.Common.{ap, sym, ◌∙◌}
use Rattle.symbols.specs.Symbols.{names_among}
use Rattle.symbols.proofs.SourceLemmas.{labels_apart}
use Rattle.symbols.proofs.symbols.Symbols.names_at.Goals as goal

pub returns : goal.returns
returns c =
    let here = c.self.inside in
    let apart = labels_apart _ _ here.labels_alone here.lines_alone in
    rw (sym c.self.view_is) (c.names_at.ensures ∙ ap (λ labels. names_among labels c.args.address) (sym apart))
