use Rattle.std.specs.List.{list_any}
use Rattle.std.specs.Prelude.{◌&&◌}
use Rattle.std.proofs.Common.{◌≡◌, ap, ap₂, map, sym, ◌∙◌}
use Rattle.std.proofs.lemmas.List.{length-map}
use Rattle.cap_bounds.specs.CapValue.{value_address}
use Rattle.steps.specs.State.{pc_of}
use Rattle.reached.specs.Links.{values}
use Rattle.reach.proofs.Reaches.{values_seen}
use Rattle.reach.specs.Reach.{members_in}
use Rattle.policy.specs.Terms.{terms, terms_of}
use Rattle.policy.specs.Watch.{values_in}
use Rattle.policy.specs.Lending.{each_after, is_call, next_door}
use Rattle.std.proofs.lemmas.Result.{err_from_is_err_and}
use Rattle.policy.proofs.Forced.{any-some, any-terms, each-uncalled, none-lends}
use Rattle.policy.proofs.in_force.step_after.Goals as goal

pub returns-then-not-lends_some-clause-none : goal.returns-then-not-lends_some-clause-none
returns-then-not-lends_some-clause-none g c =
    let s = c.args.machine.now in
    let said = c.args.said.now in
    let paired = length-map said terms ∙ c.requires ∙ sym (length-map c.args.now.now terms) in
    each-uncalled (values_in s) (pc_of s) (next_door s) (terms_of said) (terms_of c.args.now.now) paired
    (none-lends (values_in s) (pc_of s) (next_door s) (terms_of said)
    (any-terms (λ rule. rule.or_caller) said ∙ sym c.lends_some.ensures ∙ c.if-not-lends_some.true))

pub returns-then-not-calls_one-clause-none : goal.returns-then-not-calls_one-clause-none
returns-then-not-calls_one-clause-none g c =
    let s = c.args.machine.now in
    let said = c.args.said.now in
    let paired = length-map said terms ∙ c.requires ∙ sym (length-map c.args.now.now terms) in
    let is : c.address-pc.result ≡ pc_of s =
    c.address-pc.ensures
    ∙ ap value_address (c.pcc.ensures.value ∙ ap (λ x. x.pcc) (c.scrs.ensures.value ∙ ap (λ u. u.scrs) c.hart-hart.ensures.value)) in
    each-uncalled (values_in s) (pc_of s) (next_door s) (terms_of said) (terms_of c.args.now.now) paired
    (any-terms (λ rule. rule.or_caller && is_call rule (pc_of s) (next_door s)) said
    ∙ sym (ap₂ (λ pc door. list_any (λ rule. rule.or_caller && is_call (terms rule) pc door) said) is c.next_door-door.ensures)
    ∙ sym c.calls_one.ensures ∙ c.if-not-calls_one.true)

pub returns-clause-some : goal.returns-clause-some
returns-clause-some g c =
    let s = c.args.machine.now in
    let is : c.address-pc.result ≡ pc_of s =
    c.address-pc.ensures
    ∙ ap value_address (c.pcc.ensures.value ∙ ap (λ x. x.pcc) (c.scrs.ensures.value ∙ ap (λ u. u.scrs) c.hart-hart.ensures.value)) in
    let value = g.C.CapRep.value in
    let found = c.in_ok-reach.reach in
    let same : values value found ≡ values_in s =
    sym (values_seen value found) ∙ ap (map (λ x. x.value)) (c.in_ok-reach.ensures.members ∙ ap members_in c.hart-hart.ensures.value) in
    c.in_ok-rules.ensures
    ∙ ap (λ vs. each_after vs c.address-pc.result c.next_door-door.result (terms_of c.args.said.now) (terms_of c.args.now.now)) same
    ∙ ap₂ (λ pc door. each_after (values_in s) pc door (terms_of c.args.said.now) (terms_of c.args.now.now)) is c.next_door-door.ensures

pub returns-in_err-reach-clause-room : goal.returns-in_err-reach-clause-room
returns-in_err-reach-clause-room g c =
    let p = err_from_is_err_and c.from_residual.result c.from_residual.ensures.1 in
    rw p.1 (any-some (λ rule. rule.or_caller) c.args.said.now (sym c.lends_some.ensures ∙ c.if-not-lends_some.false))

pub returns-in_err-rules-clause-room : goal.returns-in_err-rules-clause-room
returns-in_err-rules-clause-room g c =
    let p = err_from_is_err_and c.from_residual-in_err-rules.result c.from_residual-in_err-rules.ensures.1 in
    rw p.1 (any-some (λ rule. rule.or_caller) c.args.said.now (sym c.lends_some.ensures ∙ c.if-not-lends_some.false))
