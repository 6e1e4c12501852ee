use Rattle.std.proofs.Common.{subst, sym}
use Rattle.std.specs.Prelude.{true}
use Rattle.symbols.specs.Sources.{places_of}
use Rattle.symbols.specs.Symbols.{lines_of}
use Rattle.symbols.proofs.SourceLemmas.{AreOf, are_lines, both_are}
use Rattle.symbols.proofs.symbols.Symbols.with_sources.Goals as goal

pub invariant_of-result : goal.invariant_of-result
invariant_of-result c =
    let here = c.self.inside in
    let all = both_are true here.sources (places_of c.args.text.now) here.lines_alone (are_lines (lines_of c.args.text.now)) in
    (here.labels_alone, (subst (AreOf true) (sym c.in_ok-sources.ensures.lines) all, tt))
