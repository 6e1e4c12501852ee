use Rattle.std.proofs.Common.{◌≡◌, subst, sym, ◌∙◌}
use Rattle.std.specs.Str.{IsUtf8}
use Rattle.symbols.proofs.SourceLemmas.{shown_text}
use Rattle.symbols.proofs.sources.SourceLine.text.Goals as goal

pub unreachable-requires : goal.unreachable-requires
unreachable-requires c =
    c.in-Err.ensures.cases.0 (subst IsUtf8 (sym c.deref.ensures.value) (shown_text c.self.inside.text.items c.self.inside.shown))
