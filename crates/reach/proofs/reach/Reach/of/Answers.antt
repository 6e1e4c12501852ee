use Rattle.std.proofs.Common.{◌∙◌, map, ap, sym, subst}
use Rattle.steps.specs.State.{HoldsCapabilities}
use Rattle.reach.proofs.Reaches.{reach_of_search, links_of_search, members_of_search, reach_of_members}
use Rattle.reach.proofs.reach.Reach.of.Goals as goal

pub closure-requires : goal.closure-requires
closure-requires g c = record { capabilities = subst HoldsCapabilities (sym c.memory.ensures.value) c.memory.ensures.well_formed }

pub returns-clause-exact : goal.returns-clause-exact
returns-clause-exact g c =
    let value = g.C.CapRep.value in
    reach_of_search c.args.hart.now (map value c.deref.result.now) (map value c.deref-2.result.now) c.memory.result.now
    (ap (map value) c.deref.ensures.value ∙ c.in_ok-first.ensures.value)
    (ap (map value) c.deref-2.ensures.value ∙ c.in_ok-guarded.ensures)
    c.memory.ensures.value (map (λ m. value m.cap) c.in_ok-members.members.items) c.in_ok-members.ensures.sound
    c.in_ok-members.ensures.complete

pub returns-clause-linked : goal.returns-clause-linked
returns-clause-linked g c =
    let value = g.C.CapRep.value in
    links_of_search c.args.hart.now (map value c.deref.result.now) (map value c.deref-2.result.now) c.memory.result.now
    (ap (map value) c.deref.ensures.value ∙ c.in_ok-first.ensures.value)
    (ap (map value) c.deref-2.ensures.value ∙ c.in_ok-guarded.ensures)
    c.memory.ensures.value value c.in_ok-members.members.items c.in_ok-members.ensures.linked

pub returns-clause-members : goal.returns-clause-members
returns-clause-members g c =
    let value = g.C.CapRep.value in
    members_of_search c.args.hart.now (map value c.deref.result.now) (map value c.deref-2.result.now) c.memory.result.now
    (ap (map value) c.deref.ensures.value ∙ c.in_ok-first.ensures.value)
    (ap (map value) c.deref-2.ensures.value ∙ c.in_ok-guarded.ensures)
    c.memory.ensures.value _ c.in_ok-members.ensures.members

pub returns-clause-of_state : goal.returns-clause-of_state
returns-clause-of_state g c =
    reach_of_members c.args.hart.now g.C.CapRep.value c.in_ok-members.members.items (returns-clause-exact g c) (returns-clause-members g c)
