use Rattle.std.proofs.Common.{◌≡◌, ◌++◌, ap, sym, ◌∙◌}
use Rattle.policy.specs.Terms.{terms_of}
use Rattle.policy.specs.Watch.{fetched_at, values_in}
use Rattle.policy_audit.specs.Found.{found_at, found_from}
use Rattle.policy_audit.specs.Look.{rules_of, seen_by}
use Rattle.policy_audit.proofs.Adding.{nothing}
use Rattle.policy_audit.proofs.Looking.{found-inside, found_here, found_in_reach}
use Rattle.policy_audit.proofs.audit.Audit.look.Goals as goal

pub returns-then-finds_none-clause-seen : goal.returns-then-finds_none-clause-seen
returns-then-finds_none-clause-seen g c =
    let s = c.args.machine.now in
    let held = c.rules-rules.ensures in
    let rules = terms_of c.rules-rules.result.now in
    let seen = seen_by c.args.self.now in
    let is : c.fetched_at-at.result ≡ fetched_at s = c.fetched_at-at.ensures ∙ ap fetched_at c.hart-hart.ensures.value in
    nothing seen (found_at (rules_of c.args.self.now) seen s)
    (ap (λ rs. found_at (terms_of rs) seen s) (sym held)
    ∙ ap (λ a. found_from seen (values_in s) a 0 rules) (sym is)
    ∙ ap (λ f. found_from f (values_in s) c.fetched_at-at.result 0 rules) (sym c.deref.ensures.value)
    ∙ c.finds_none.ensures c.if-finds_none.true (values_in s))

pub returns-clause-found : goal.returns-clause-found
returns-clause-found g c =
    let s = c.args.machine.now in
    let held = c.rules-rules.ensures in
    let rules = terms_of c.rules-rules.result.now in
    let seen = seen_by c.args.self.now in
    let is : c.fetched_at-at.result ≡ fetched_at s = c.fetched_at-at.ensures ∙ ap fetched_at c.hart-hart.ensures.value in
    found_here g.C.CapRep.value rules seen c.deref-2.result.now c.fetched_at-at.result c.new-found.result.items c.add_found.new.found.items
    c.in_ok-reach.reach c.members.result.now c.deref-2.ensures.value c.new-found.ensures.items c.members.ensures
    c.in_ok-add_found.ensures
    ∙ found_in_reach g.C.CapRep.value c.in_ok-reach.reach s c.hart-hart.result.now c.hart-hart.ensures.value
    c.in_ok-reach.ensures.members rules seen c.fetched_at-at.result is
    ∙ ap (λ rs. found_at (terms_of rs) seen s) held

pub returns-clause-inside : goal.returns-clause-inside
returns-clause-inside g c =
    let held = c.rules-rules.ensures in
    let rules = terms_of c.rules-rules.result.now in
    let seen = seen_by c.args.self.now in
    found-inside g.C.CapRep.value c.in_ok-reach.reach seen c.fetched_at-at.result rules c.add_found.new.found.items
    (found_here g.C.CapRep.value rules seen c.deref-2.result.now c.fetched_at-at.result c.new-found.result.items c.add_found.new.found.items
    c.in_ok-reach.reach c.members.result.now c.deref-2.ensures.value c.new-found.ensures.items c.members.ensures
    c.in_ok-add_found.ensures)

pub returns-clause-seen : goal.returns-clause-seen
returns-clause-seen g c =
    let s = c.args.machine.now in
    let held = c.rules-rules.ensures in
    let rules = terms_of c.rules-rules.result.now in
    let seen = seen_by c.args.self.now in
    let is : c.fetched_at-at.result ≡ fetched_at s = c.fetched_at-at.ensures ∙ ap fetched_at c.hart-hart.ensures.value in
    c.in_ok-extend_from_slice.ensures.items
    ∙ ap (λ f. seen ++ f)
    (c.deref-3.ensures.value
    ∙ found_here g.C.CapRep.value rules seen c.deref-2.result.now c.fetched_at-at.result c.new-found.result.items
    c.add_found.new.found.items c.in_ok-reach.reach c.members.result.now c.deref-2.ensures.value c.new-found.ensures.items
    c.members.ensures c.in_ok-add_found.ensures
    ∙ found_in_reach g.C.CapRep.value c.in_ok-reach.reach s c.hart-hart.result.now c.hart-hart.ensures.value
    c.in_ok-reach.ensures.members rules seen c.fetched_at-at.result is
    ∙ ap (λ rs. found_at (terms_of rs) seen s) held)
