use Rattle.std.proofs.Common.{◌≤◌, None, Some, length, refl, sym, ap, ◌∙◌, arith}
use Rattle.std.proofs.lemmas.List.{drop_all}
use Rattle.reached.specs.Order.{seen_member, seen_members}
use Rattle.doors.specs.ThroughOrder.{key_of}
use Rattle.doors.proofs.Ordered.{opens-is, key-passed, key-found, door-own, door-other}
use Rattle.doors.proofs.through.door_at.Goals as goal

pub loop-key-init : goal.loop-key-init
loop-key-init g c = refl

pub loop-key-preserved : goal.loop-key-preserved
loop-key-preserved g c =
    let value = g.C.CapRep.value in
    let sealed = value c.args.member.now.cap in
    let key = c.key-item.result in
    c.loop-key.invariant
    ∙ key-passed value c.args.members.now sealed c.loop-key.key-index key c.loop-key-test.true c.key-item.is
    (sym (opens-is sealed (value key.cap) c.opens-in-loop-key.result c.opens-in-loop-key.ensures) ∙ c.if-opens-2.false)

pub returns-then-opens : goal.returns-then-opens
returns-then-opens g c =
    let value = g.C.CapRep.value in
    let sealed = value c.args.member.now.cap in
    door-own (seen_members value c.args.members.now) (seen_member value c.args.member.now)
    (sym (opens-is sealed sealed c.opens.result c.opens.ensures) ∙ c.if-opens.true)

pub returns-then-opens-2 : goal.returns-then-opens-2
returns-then-opens-2 g c =
    let value = g.C.CapRep.value in
    let members = c.args.members.now in
    let sealed = value c.args.member.now.cap in
    let key = c.key-item.result in
    door-other (seen_members value members) (seen_member value c.args.member.now)
    (sym (opens-is sealed sealed c.opens.result c.opens.ensures) ∙ c.if-opens.false) (Some (seen_member value key))
    (c.loop-key.invariant
    ∙ key-found value members sealed c.loop-key.key-index key c.loop-key-test.true c.key-item.is
    (sym (opens-is sealed (value key.cap) c.opens-in-loop-key.result c.opens-in-loop-key.ensures) ∙ c.if-opens-2.true))

pub returns : goal.returns
returns g c =
    let value = g.C.CapRep.value in
    let members = c.args.members.now in
    let sealed = value c.args.member.now.cap in
    let past : length members ≤ c.loop-key.key-index = omega arith in
    door-other (seen_members value members) (seen_member value c.args.member.now)
    (sym (opens-is sealed sealed c.opens.result c.opens.ensures) ∙ c.if-opens.false) None
    (c.loop-key.invariant ∙ ap (λ ys. key_of (seen_members value ys) sealed) (drop_all c.loop-key.key-index members past))
