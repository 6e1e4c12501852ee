use Rattle.std.proofs.Common.{subst, sym}
use Rattle.symbols.specs.Symbols.{lines_of}
use Rattle.symbols.proofs.SourceLemmas.{AreOf, are_labels}
use Rattle.std.specs.Prelude.{false, true}
use Rattle.symbols.proofs.symbols.read_symbols.Goals as goal

pub invariant_of-result : goal.invariant_of-result
invariant_of-result c = (
  subst (AreOf false) (sym c.in_ok-labels.ensures.symbols) (are_labels (lines_of c.args.text.now)),
  (subst (AreOf true) (sym c.new.ensures) tt, tt),
)
