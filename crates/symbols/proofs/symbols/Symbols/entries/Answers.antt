use Rattle.std.proofs.Common.{sym, ◌∙◌}
use Rattle.symbols.proofs.SourceLemmas.{labels_apart}
use Rattle.symbols.proofs.symbols.Symbols.entries.Goals as goal

pub returns : goal.returns
returns c =
    let here = c.self.inside in
    rw (sym c.self.view_is) (c.entries.ensures ∙ sym (labels_apart _ _ here.labels_alone here.lines_alone))
