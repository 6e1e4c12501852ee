use Rattle.std.proofs.Common.{◌≡◌, ◌+◌, ◌++◌, [], arith, ap, sym, ◌∙◌, drop}
use Rattle.std.proofs.lemmas.List.{length-map}
use Rattle.policy.specs.Terms.{terms, terms_of}
use Rattle.policy.proofs.Termed.{termed-at, termed-below}
use Rattle.policy_audit.specs.Found.{found_from, found_of}
use Rattle.policy_audit.proofs.Adding.{all_found, not_applied, rules_end, rules_next}
use Rattle.policy_audit.proofs.search.finds_none.Goals as goal
use Rattle.policy_audit.proofs.search.finds_none.Goals.{else-applies-via-then-applies+else-not-is_all_found}
use Rattle.policy_audit.proofs.search.finds_none.Goals.{else-applies-via-else-applies}

pub loop-place-preserved : goal.loop-place-preserved
loop-place-preserved c =
    let seen = c.args.seen.now in
    let at = c.args.at in
    let place = c.loop-place.place in
    let rules = terms_of c.args.rules.now in
    let rule = terms c.index-rules-place.result in
    let inside = c.loop-place-test.true in
    record {
      within = omega (arith, inside);
      none = λ vs.
          let none : found_of seen vs at place rule ≡ [] = elim c.else-applies.branch [
            | else-applies-via-then-applies+else-not-is_all_found w ↦ all_found seen at place rule
                (sym w.is_all_found.ensures ∙ w.if-not-is_all_found.false) vs
            | else-applies-via-else-applies w ↦ not_applied seen at place rule
                (sym c.applies.ensures ∙ w.if-applies.false) vs
          ] in
          c.loop-place.invariant.none vs
          ∙ rules_next seen vs at rules place rule (termed-below c.args.rules.now place inside)
          ∙ ap (λ t. found_of seen vs at place t ++ found_from seen vs at (place + 1) (drop (place + 1) rules))
          (sym (termed-at c.args.rules.now place c.index-rules-place.result c.index-rules-place.is))
          ∙ ap (λ found. found ++ found_from seen vs at (place + 1) (drop (place + 1) rules)) none;
    }

pub returns : goal.returns
returns c = λ _ vs.
    c.loop-place.invariant.none vs
    ∙ rules_end c.args.seen.now vs c.args.at (terms_of c.args.rules.now) c.loop-place.place
    (omega (arith, c.loop-place-test.false, length-map c.args.rules.now terms))
