use Rattle.std.proofs.Common.{not, ap, sym, ◌∙◌}
use Rattle.std.proofs.lemmas.Bool.{false≢true}
use Rattle.policy.proofs.Covers.{covered}
use Rattle.policy.proofs.cover.covers.Goals as goal

pub returns-then-holds-clause-all : goal.returns-then-holds-clause-all
returns-then-holds-clause-all c = λ none.
    covered c.args.ranges.now c.args.from c.args.to (λ out. false≢true (sym (ap not (c.leaves_end.ensures.1 out)) ∙ none))
    (c.holds.ensures.0 c.if-holds.true)
