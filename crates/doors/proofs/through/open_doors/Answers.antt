use Rattle.std.proofs.Common.{◌≡◌, ◌≤◌, ◌++◌, ◌∷◌, [], true, None, Some, map, length, refl, sym, ap, ◌∙◌, arith}
use Rattle.cap_rights.specs.Opened.{opened}
use Rattle.reached.specs.Order.{seen_member, seen_members}
use Rattle.doors.specs.ThroughOrder.{open_doors, is_open_at}
use Rattle.doors.proofs.Rounds.{map-pushed}
use Rattle.doors.proofs.Ordered.{IsPassed, passed-unsealed, passed-open, passed-neither, opened-passed, opened-door, grown-door}
use Rattle.doors.proofs.Ordered.{round_to-more, round_to-all}
use Rattle.doors.proofs.through.open_doors.Goals.{then-not-is_sealed-via-then-not-is_sealed}
use Rattle.doors.proofs.through.open_doors.Goals.{then-not-is_sealed-via-else-not-is_sealed+then-is_open}
use Rattle.doors.proofs.through.open_doors.Goals as goal

pub loop-member-init : goal.loop-member-init
loop-member-init g c = refl

pub loop-member-preserved-then-not-is_sealed : goal.loop-member-preserved-then-not-is_sealed
loop-member-preserved-then-not-is_sealed g c =
    let value = g.C.CapRep.value in
    let xs = seen_members value c.args.members.now in
    let x = c.member-item.result in
    let now = open_doors c.loop-member.doors.items (map value c.loop-member.roots.items) in
    let passed : IsPassed xs (seen_member value x) now true = elim c.then-not-is_sealed.branch [
      | then-not-is_sealed-via-then-not-is_sealed w ↦
          passed-unsealed xs (seen_member value x) now (sym c.is_sealed.ensures ∙ w.if-not-is_sealed.true)
      | then-not-is_sealed-via-else-not-is_sealed+then-is_open w ↦
          passed-open xs (seen_member value x) now
          (ap (λ doors. is_open_at doors x.place) (sym w.deref.ensures.value) ∙ sym w.is_open.ensures ∙ w.if-is_open.true)
    ] in
    round_to-more value c.args.members.now c.loop-member.member-index x c.loop-member-test.true c.member-item.is
    (open_doors c.args.doors.now.items (map value c.args.roots.now.items)) now now
    (opened-passed xs (seen_member value x) now passed) c.loop-member.invariant

pub loop-member-preserved-in_default : goal.loop-member-preserved-in_default
loop-member-preserved-in_default g c =
    let value = g.C.CapRep.value in
    let xs = seen_members value c.args.members.now in
    let x = c.member-item.result in
    let now = open_doors c.loop-member.doors.items (map value c.loop-member.roots.items) in
    round_to-more value c.args.members.now c.loop-member.member-index x c.loop-member-test.true c.member-item.is
    (open_doors c.args.doors.now.items (map value c.args.roots.now.items)) now now
    (opened-door xs (seen_member value x) now
    (passed-neither xs (seen_member value x) now (sym c.is_sealed.ensures ∙ c.if-not-is_sealed.false)
    (ap (λ doors. is_open_at doors x.place) (sym c.deref.ensures.value) ∙ sym c.is_open.ensures ∙ c.if-is_open.false))
    None c.in_default.ensures) c.loop-member.invariant

pub loop-member-preserved : goal.loop-member-preserved
loop-member-preserved g c =
    let value = g.C.CapRep.value in
    let xs = seen_members value c.args.members.now in
    let x = c.member-item.result in
    let now = open_doors c.loop-member.doors.items (map value c.loop-member.roots.items) in
    let new = open_doors c.push-in-loop-member.new.self.items (map value c.push.new.self.items) in
    let roots_grown : map value c.push.new.self.items ≡ map value c.loop-member.roots.items ++ opened (value x.cap) ∷ [] =
    map-pushed value c.loop-member.roots.items c.push.new.self.items c.opened.result (opened (value x.cap)) c.in_ok-push.ensures.items
    c.opened.ensures in
    round_to-more value c.args.members.now c.loop-member.member-index x c.loop-member-test.true c.member-item.is
    (open_doors c.args.doors.now.items (map value c.args.roots.now.items)) now new
    (opened-door xs (seen_member value x) now
    (passed-neither xs (seen_member value x) now (sym c.is_sealed.ensures ∙ c.if-not-is_sealed.false)
    (ap (λ doors. is_open_at doors x.place) (sym c.deref.ensures.value) ∙ sym c.is_open.ensures ∙ c.if-is_open.false))
    (Some c.in-Some.door) c.in-Some.ensures
    ∙ grown-door c.loop-member.doors.items c.push-in-loop-member.new.self.items c.in-Some.door (map value c.loop-member.roots.items)
    (map value c.push.new.self.items) (opened (value x.cap)) c.in_ok-push-2.ensures.items roots_grown)
    c.loop-member.invariant

pub returns : goal.returns
returns g c =
    let value = g.C.CapRep.value in
    let members = c.args.members.now in
    let past : length members ≤ c.loop-member.member-index = omega arith in
    round_to-all value members c.loop-member.member-index past (open_doors c.args.doors.now.items (map value c.args.roots.now.items))
    (open_doors c.loop-member.doors.items (map value c.loop-member.roots.items)) c.loop-member.invariant
