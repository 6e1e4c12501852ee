use Rattle.std.proofs.Common.{◌≡◌, [], map, take, drop, length, false, ap, ◌∙◌, subst, arith, sym, ◌++◌, ◌+◌}
use Rattle.std.proofs.lemmas.List.{length-map, take_at}
use Rattle.tag_planes.specs.Planes.{tag_at}
use Rattle.reached.specs.Order.{seen_members, seen_member, tagged_from, among}
use Rattle.reached.specs.Findings.{IsLeftBy}
use Rattle.reached.proofs.Finding.{IsLeftBy-begun, GoesOn, GoesOn-begun, GoesOn-behind, GoesOn-done}
use Rattle.reached.specs.Search.{IsSearch}
use Rattle.std.specs.List.{All}
use Rattle.reached.specs.Links.{IsAmong}
use Rattle.reached.specs.ChainLaws.{in_order-linked}
use Rattle.reached.proofs.Linking.{AreLinked-roots}
use Rattle.reached.proofs.Opening.{planes-tag}
use Rattle.reached.proofs.Searching.{IsSearch-begun, complete}
use Rattle.reached.proofs.search.closure.Goals as goal

pub loop-index-init : goal.loop-index-init
loop-index-init g c =
    let value = g.C.CapRep.value in
    let m = c.args.memory.now in
    let left = c.in_ok-left.left.items in
    let copied : left ≡ c.planes.result.now = c.in_ok-left.ensures.items in
    let words = c.planes.ensures.four_a_page in
    let many = ap length copied in
    let none : c.new-members.result.items ≡ [] = c.new-members.ensures.items in
    let roots = map value c.args.roots.now in
    let specials = map value c.args.specials.now in
    let found : seen_members value c.add_tagged.new.members.items ≡ tagged_from (among false) 0 0 roots =
    c.in_ok-add_tagged.ensures.found ∙ ap (λ xs. seen_members value xs ++ tagged_from (among false) 0 0 roots) none in
    record {
      left = subst (λ xs. IsLeftBy specials m xs left false) (sym found)
          (IsLeftBy-begun specials roots m left
          (λ k. ap (λ xs. tag_at xs k) copied ∙ planes-tag c.planes.result.now m c.planes.ensures k));
      found = subst (λ xs. GoesOn roots specials m xs 0) (sym found) (GoesOn-begun roots specials m);
      search = rw (c.in_ok-add_tagged.ensures.values, none)
          (IsSearch-begun (map value c.args.roots.now) (map value c.args.specials.now) m left (omega arith)
          (λ k. ap (λ xs. tag_at xs k) copied ∙ planes-tag c.planes.result.now m c.planes.ensures k));
      linked = AreLinked-roots value (map value c.args.roots.now) (map value c.args.specials.now) m 0 c.add_tagged.new.members.items
          (subst (λ xs. All (IsAmong value (map value c.args.roots.now) false 0) (drop (length xs) c.add_tagged.new.members.items)) none
          c.in_ok-add_tagged.ensures.added);
    }

pub returns-clause-order : goal.returns-clause-order
returns-clause-order g c =
    let value = g.C.CapRep.value in
    in_order-linked value (map value c.args.roots.now) (map value c.args.specials.now) c.args.memory.now c.loop-index.members.items
    c.loop-index.invariant.linked

pub returns-clause-complete : goal.returns-clause-complete
returns-clause-complete g c =
    let value = g.C.CapRep.value in
    let items = c.loop-index.members.items in
    let vs = map (λ m. value m.cap) items in
    let some = c.loop-index.invariant.search.some in
    let all : c.loop-index.index ≡ length vs = omega (arith, length-map items (λ m. value m.cap)) in
    complete (map value c.args.roots.now) (map value c.args.specials.now) c.args.memory.now vs c.loop-index.left.items
    c.loop-index.opened.system c.loop-index.opened.bare.first c.loop-index.opened.bare.end
    (subst (λ n. IsSearch (map value c.args.roots.now) (map value c.args.specials.now) c.args.memory.now vs c.loop-index.left.items
    c.loop-index.opened.system c.loop-index.opened.bare.first c.loop-index.opened.bare.end n) all c.loop-index.invariant.search)

pub returns-clause-members : goal.returns-clause-members
returns-clause-members g c =
    let value = g.C.CapRep.value in
    let items = c.loop-index.members.items in
    let some = c.loop-index.invariant.search.some in
    let same = length-map items (λ m. value m.cap) in
    let long = length-map items (seen_member value) in
    GoesOn-done (map value c.args.roots.now) (map value c.args.specials.now) c.args.memory.now (seen_members value items) c.loop-index.index
    c.loop-index.invariant.found (omega (arith, long)) (omega (arith, same, some))

pub loop-index-preserved : goal.loop-index-preserved
loop-index-preserved g c =
    let value = g.C.CapRep.value in
    let roots = map value c.args.roots.now in
    let specials = map value c.args.specials.now in
    let m = c.args.memory.now in
    let before = c.loop-index.members.items in
    let items = c.visit.new.members.items in
    let new = c.visit.new.left in
    let now = c.in_ok-opened.opened in
    let inv = c.loop-index.invariant in
    let words = inv.search.words in
    let new_words = c.in_ok-opened.ensures.search.words in
    let long : length new ≡ c.loop-index.left.len = omega arith in
    let same : take c.loop-index.left.len (new ++ drop (length new) c.loop-index.left.items) ≡ new =
    take_at new (drop (length new) c.loop-index.left.items) c.loop-index.left.len long in
    record {
      search = subst (λ xs. IsSearch roots specials m (map (λ x. value x.cap) items) xs now.system now.bare.first now.bare.end
          (c.loop-index.index + 1)) (sym same) c.in_ok-opened.ensures.search;
      linked = c.in_ok-opened.ensures.linked;
      left = subst (λ xs. IsLeftBy specials m (seen_members value items) xs now.system) (sym same) c.in_ok-opened.ensures.left;
      found = GoesOn-behind roots specials m (seen_members value before) (seen_members value items) c.loop-index.index inv.found
          c.in_ok-opened.ensures.found (omega (arith, length-map before (seen_member value)));
    }
