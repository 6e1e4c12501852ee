use Rattle.std.proofs.Common.{◌+◌, ◌++◌, arith, ap, drop, sym, ◌∙◌}
use Rattle.std.proofs.lemmas.List.{length-map}
use Rattle.reached.specs.Links.{values}
use Rattle.policy.specs.Terms.{terms, terms_of}
use Rattle.policy.proofs.Termed.{termed-at, termed-below}
use Rattle.policy_audit.specs.Found.{found_from, found_of}
use Rattle.policy_audit.proofs.Adding.{end, more, rules_end, rules_next}
use Rattle.policy_audit.proofs.search.add_found.Goals as goal

pub loop-place-preserved : goal.loop-place-preserved
loop-place-preserved g c =
    let vs = values g.C.CapRep.value c.args.members.now in
    let rules = c.args.rules.now in
    let seen = c.args.seen.now in
    let at = c.args.at in
    let k = c.loop-place.place in
    let rule = c.index-rules-place.result in
    let inside = c.loop-place-test.true in
    record {
      within = omega (arith, inside);
      found = more _ _ _ _ _ _ c.in_ok-add_rule.ensures
          (rules_next seen vs at (terms_of rules) k (terms rule) (termed-below rules k inside)
          ∙ ap (λ t. found_of seen vs at k t ++ found_from seen vs at (k + 1) (drop (k + 1) (terms_of rules)))
          (sym (termed-at rules k rule c.index-rules-place.is)))
          c.loop-place.invariant.found;
    }

pub returns : goal.returns
returns g c =
    let vs = values g.C.CapRep.value c.args.members.now in
    end _ _ _
    (rules_end c.args.seen.now vs c.args.at (terms_of c.args.rules.now) c.loop-place.place
    (omega (arith, c.loop-place-test.false, length-map c.args.rules.now terms)))
    c.loop-place.invariant.found
