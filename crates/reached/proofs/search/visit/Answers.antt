use Rattle.std.proofs.Common.{◌≡◌, ◌<◌, true, map, length, get_or, ap, ◌∙◌, sym, arith, subst}
use Rattle.std.proofs.lemmas.List.{get_or-map, length-map}
use Rattle.cap_bounds.specs.CapValue.{CapValue}
use Rattle.cap_rights.specs.Rights.{OpensSystem}
use Rattle.reached.specs.Links.{IsAmong, IsMemberThrough, AreLinked, values}
use Rattle.reached.proofs.Linking.{linked-special, linked-through, AreLinked-added, at_kept, not_fewer}
use Rattle.std.proofs.lemmas.Option.{get_or_from_slice_get}
use Rattle.reached.specs.Order.{seen_member, seen_members, with_behind}
use Rattle.reached.proofs.Finding.{with_behind-visited, IsLeftBy-visited}
use Rattle.reached.proofs.Searching.{IsSearch-through}
use Rattle.reached.proofs.search.visit.Goals as goal

pub returns-clause-linked : goal.returns-clause-linked
returns-clause-linked g c =
    let value = g.C.CapRep.value in
    let items = c.args.members.now.items in
    let more = c.open_system.new.members.items in
    let below : c.args.index < length items = omega arith in
    let roots = map value c.args.roots.now in
    let specials = map value c.args.specials.now in
    let m = c.args.memory.now in
    let cap : CapValue = value c.index.result.now.cap in
    let kept = c.in_ok-system.ensures.kept in
    let first : (d : CapValue) → get_or (values value items) c.args.index d ≡ cap = λ d.
    get_or-map (λ x. value x.cap) items c.args.index c.index.result.now d below ∙ ap (λ x. value x.cap) (sym c.index.ensures) in
    let linked : AreLinked value roots specials m more =
    AreLinked-added value roots specials m (λ x. OpensSystem cap × IsAmong value specials true c.args.index x) items more c.args.index cap
    c.requires.linked kept below first c.in_ok-system.ensures.added (linked-special value roots specials m cap c.args.index) in
    let below_more : c.args.index < length more = omega (arith, not_fewer value roots specials m items more kept) in
    AreLinked-added value roots specials m (IsMemberThrough value m cap c.args.index) more c.open_granules.new.members.items c.args.index
    cap linked c.in_ok-bare.ensures.kept below_more (at_kept value roots specials m items more kept c.args.index below cap first)
    c.in_ok-bare.ensures.added (linked-through value roots specials m cap c.args.index)

pub returns-clause-search : goal.returns-clause-search
returns-clause-search g c =
    let value = g.C.CapRep.value in
    let items = c.args.members.now.items in
    let below : c.args.index < length items = omega arith in
    IsSearch-through (map value c.args.roots.now) (map value c.args.specials.now) c.args.memory.now (map (λ m. value m.cap) items)
    (map (λ m. value m.cap) c.open_system.new.members.items) (map (λ m. value m.cap) c.open_granules.new.members.items)
    c.args.left.now c.open_granules.new.left c.args.opened.system c.in_ok-system.system c.args.opened.bare.first c.args.opened.bare.end
    c.in_ok-bare.bare.first c.in_ok-bare.bare.end c.args.index (value c.index.result.now.cap) c.is_sound.ensures c.requires.search
    (omega (arith, length-map items (λ m. value m.cap)))
    (λ d. get_or-map (λ m. value m.cap) items c.args.index c.index.result.now d below ∙ ap (λ m. value m.cap) (sym c.index.ensures))
    c.in_ok-system.ensures.opened c.in_ok-bare.ensures.opened c.in_ok-bare.ensures.bare

pub returns-clause-found : goal.returns-clause-found
returns-clause-found g c = λ x here.
    let value = g.C.CapRep.value in
    let items = c.args.members.now.items in
    let index = c.args.index in
    let member = c.index.result.now in
    let seen = seen_members value items in
    let ws = seen_members value c.open_granules.new.members.items in
    let specials = map value c.args.specials.now in
    let m = c.args.memory.now in
    let below : index < length items = omega arith in
    let same : seen_member value member ≡ x =
    ap (seen_member value) c.index.ensures ∙ sym (get_or-map (seen_member value) items index member (seen_member value member) below)
    ∙ get_or_from_slice_get seen index x (seen_member value member) here in
    subst (λ y. ws ≡ with_behind specials m seen index y) same
    (with_behind-visited specials m seen (seen_members value c.open_system.new.members.items) ws c.args.left.now c.open_granules.new.left
    c.args.opened.system c.in_ok-system.system index (seen_member value member) c.requires.left c.in_ok-system.ensures.found
    c.in_ok-bare.ensures.found c.requires.search.words)

pub returns-clause-left : goal.returns-clause-left
returns-clause-left g c =
    let value = g.C.CapRep.value in
    let member = c.index.result.now in
    IsLeftBy-visited (map value c.args.specials.now) c.args.memory.now (seen_members value c.args.members.now.items)
    (seen_members value c.open_system.new.members.items) (seen_members value c.open_granules.new.members.items) c.args.left.now
    c.open_granules.new.left c.args.opened.system c.in_ok-system.system c.args.index (seen_member value member) c.requires.left
    c.in_ok-system.ensures.found c.in_ok-bare.ensures.found
