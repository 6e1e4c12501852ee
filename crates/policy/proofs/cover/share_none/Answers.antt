use Rattle.std.proofs.Common.{not, ap, sym, ◌∙◌}
use Rattle.std.proofs.lemmas.Bool.{false≢true}
use Rattle.policy.specs.Cover.{ShareSome}
use Rattle.policy.proofs.cover.share_none.Goals as goal

pub returns : goal.returns
returns c = λ none a one two.
    let some : ShareSome c.args.xs.now c.args.ys.now = record {
      range = one.range;
      is_one = one.is_one;
      overlaps = record {
        range = two.range;
        is_one = two.is_one;
        overlap = record { address = a; in_first = one.inside; in_second = two.inside };
      };
    } in
    false≢true (sym (ap not (c.share_some.ensures.1 some)) ∙ none)
