use Rattle.std.proofs.Common.{◌≡◌, ◌^◌, refl, ◌∙◌, length, map, ap, sym, subst, arith}
use Rattle.std.proofs.lemmas.List.{length-append}
use Rattle.steps.specs.State.{HoldsCapabilities}
use Rattle.reached.specs.Order.{seen_members}
use Rattle.doors.specs.ThroughOrder.{OpenDoors, open_doors, members_behind, round as round_over}
use Rattle.doors.proofs.Rounds.{IsRound}
use Rattle.doors.proofs.Ordered.{round-is}
use Rattle.doors.proofs.Searched.{IsSearchOf, search_of, opened-none, opened-round, exact-found, linked-found}
use Rattle.doors.proofs.Searched.{IsNext, next-round, doors-found, members-found, found-behind, exact-through}
use Rattle.doors.proofs.through.closure_through_doors.Given.{Over}
use Rattle.doors.proofs.through.closure_through_doors.Goals.{After-len}
use Rattle.doors.proofs.through.closure_through_doors.Goals as goal

pub loop-doors-init : goal.loop-doors-init
loop-doors-init g c =
    let s = c.args.hart.now in
    rw (c.new-doors.ensures.items, c.in_ok-starts.ensures.value) (opened-none s (2 ^ 64) refl)

pub closure-requires : goal.closure-requires
closure-requires g c = record { capabilities = subst HoldsCapabilities (sym c.memory.ensures.value) c.memory.ensures.well_formed }

searched : (g : Over) (c : After-len g)
    → IsSearchOf g.C.CapRep.value c.args.hart.now c.loop-doors.invariant.behind c.in_ok-members.members.items
searched g c =
    let value = g.C.CapRep.value in
    let found = c.in_ok-members.ensures in
    search_of value c.args.hart.now c.loop-doors.invariant.behind (map value c.deref.result.now)
    (map value c.deref-in-loop-doors.result.now) c.memory.result.now
    (ap (map value) c.deref.ensures.value ∙ c.loop-doors.invariant.roots_are)
    (ap (map value) c.deref-in-loop-doors.ensures.value ∙ c.in_ok-guarded.ensures)
    c.memory.ensures.value c.in_ok-members.members.items found.linked found.sound found.complete

-- the round is the definitions'
order : (g : Over) (c : After-len g)
    → open_doors c.open_doors.new.doors.items (map g.C.CapRep.value c.open_doors.new.roots.items)
    ≡ round_over (seen_members g.C.CapRep.value c.in_ok-members.members.items) (seen_members g.C.CapRep.value c.in_ok-members.members.items)
    (open_doors c.loop-doors.doors.items (map g.C.CapRep.value c.loop-doors.starts.items))
order g c =
    let value = g.C.CapRep.value in
    let old = open_doors c.loop-doors.doors.items (map value c.loop-doors.starts.items) in
    let new = open_doors c.open_doors.new.doors.items (map value c.open_doors.new.roots.items) in
    subst (λ ms. new ≡ round_over (seen_members value ms) (seen_members value ms) old) c.deref-in-loop-doors-2.ensures.value
    c.in_ok-open_doors.ensures

round : (g : Over) (c : After-len g)
    → IsRound g.C.CapRep.value c.in_ok-members.members.items (length c.in_ok-members.members.items)
    (map g.C.CapRep.value c.loop-doors.starts.items) (map g.C.CapRep.value c.open_doors.new.roots.items) c.loop-doors.doors.items
    c.open_doors.new.doors.items
round g c =
    let value = g.C.CapRep.value in
    let ms = c.in_ok-members.members.items in
    let starts = map value c.loop-doors.starts.items in
    subst (λ (o : OpenDoors). IsRound value ms (length ms) starts o.behind c.loop-doors.doors.items o.doors) (sym (order g c))
    (round-is value ms starts c.loop-doors.doors.items)

pub returns-then-len-before-clause-exact : goal.returns-then-len-before-clause-exact
returns-then-len-before-clause-exact g c =
    let value = g.C.CapRep.value in
    let h = (goal.at.returns-then-len-before-clause-exact g c).After-len in
    let so_far = c.loop-doors.invariant in
    exact-found value c.args.hart.now so_far.behind c.in_ok-members.members.items (searched g h) c.loop-doors.doors.items so_far.are_doors
    (map value c.loop-doors.starts.items) (map value c.open_doors.new.roots.items) c.open_doors.new.doors.items so_far.roots_are (round g h)
    (omega arith)

pub returns-then-len-before-clause-linked : goal.returns-then-len-before-clause-linked
returns-then-len-before-clause-linked g c =
    let value = g.C.CapRep.value in
    let h = (goal.at.returns-then-len-before-clause-linked g c).After-len in
    let so_far = c.loop-doors.invariant in
    linked-found value c.args.hart.now so_far.behind c.in_ok-members.members.items (searched g h) c.loop-doors.doors.items so_far.are_doors
    (map value c.loop-doors.starts.items) (map value c.open_doors.new.roots.items) c.open_doors.new.doors.items so_far.roots_are (round g h)
    (omega arith)

-- the members are those of the definitions
found : (g : Over) (c : After-len g)
    → seen_members g.C.CapRep.value c.in_ok-members.members.items
    ≡ members_behind c.args.hart.now (open_doors c.loop-doors.doors.items c.loop-doors.invariant.behind)
found g c =
    let value = g.C.CapRep.value in
    found-behind c.args.hart.now c.loop-doors.doors.items c.loop-doors.invariant.behind (map value c.deref.result.now)
    (map value c.deref-in-loop-doors.result.now) c.memory.result.now
    (ap (map value) c.deref.ensures.value ∙ c.loop-doors.invariant.roots_are)
    (ap (map value) c.deref-in-loop-doors.ensures.value ∙ c.in_ok-guarded.ensures)
    c.memory.ensures.value (seen_members value c.in_ok-members.members.items) c.in_ok-members.ensures.members

next : (g : Over) (c : After-len g)
    → IsNext g.C.CapRep.value c.args.hart.now c.loop-doors.invariant.behind c.in_ok-members.members.items (searched g c)
    c.loop-doors.doors.items c.loop-doors.invariant.are_doors (map g.C.CapRep.value c.loop-doors.starts.items)
    (map g.C.CapRep.value c.open_doors.new.roots.items) c.open_doors.new.doors.items c.loop-doors.invariant.roots_are (round g c)
next g c =
    let value = g.C.CapRep.value in
    let so_far = c.loop-doors.invariant in
    next-round value c.args.hart.now so_far.behind c.in_ok-members.members.items (searched g c) c.loop-doors.doors.items so_far.are_doors
    (map value c.loop-doors.starts.items) (map value c.open_doors.new.roots.items) c.open_doors.new.doors.items so_far.roots_are (round g c)
    (found g c) (order g c)

pub returns-then-len-before-clause-members : goal.returns-then-len-before-clause-members
returns-then-len-before-clause-members g c =
    let value = g.C.CapRep.value in
    let h = (goal.at.returns-then-len-before-clause-members g c).After-len in
    let so_far = c.loop-doors.invariant in
    members-found value c.args.hart.now so_far.behind c.in_ok-members.members.items (searched g h) c.loop-doors.doors.items so_far.are_doors
    (map value c.loop-doors.starts.items) (map value c.open_doors.new.roots.items) c.open_doors.new.doors.items so_far.roots_are (round g h)
    (omega arith) so_far.on (next g h) (found g h)

pub returns-then-len-before-clause-doors : goal.returns-then-len-before-clause-doors
returns-then-len-before-clause-doors g c =
    let value = g.C.CapRep.value in
    let h = (goal.at.returns-then-len-before-clause-doors g c).After-len in
    let so_far = c.loop-doors.invariant in
    doors-found value c.args.hart.now so_far.behind c.in_ok-members.members.items (searched g h) c.loop-doors.doors.items so_far.are_doors
    (map value c.loop-doors.starts.items) (map value c.open_doors.new.roots.items) c.open_doors.new.doors.items so_far.roots_are (round g h)
    (omega arith) so_far.on (next g h)

pub returns-then-len-before-clause-of_state : goal.returns-then-len-before-clause-of_state
returns-then-len-before-clause-of_state g c =
    exact-through g.C.CapRep.value c.args.hart.now c.in_ok-members.members.items (returns-then-len-before-clause-exact g c)
    (returns-then-len-before-clause-members g c)

pub loop-doors-preserved : goal.loop-doors-preserved
loop-doors-preserved g c =
    let value = g.C.CapRep.value in
    let h = (goal.at.loop-doors-preserved g c).After-len in
    let so_far = c.loop-doors.invariant in
    opened-round value c.args.hart.now so_far.behind c.in_ok-members.members.items (searched g h) c.loop-doors.doors.items so_far.are_doors
    (map value c.loop-doors.starts.items) (map value c.open_doors.new.roots.items) c.open_doors.new.doors.items so_far.roots_are (round g h)
    so_far.on (next g h) (λ same. omega (arith, same)) (omega arith)

pub loop-doors-smaller : goal.loop-doors-smaller
loop-doors-smaller g c =
    let h = (goal.at.loop-doors-smaller g c).After-len in
    let r = round g h in
    omega (arith, ap length r.doors_are, length-append c.loop-doors.doors.items r.more)
