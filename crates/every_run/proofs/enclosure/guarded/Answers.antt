use Rattle.std.proofs.Common.{map, sym, ap, ◌∙◌, subst}
use Rattle.reached.specs.Links.{values}
use Rattle.doors.specs.Roots.{roots_of}
use Rattle.every_run.specs.Members.{HoldAll}
use Rattle.every_run.proofs.enclosure.guarded.Goals as goal

pub returns-in-Ok : goal.returns-in-Ok
returns-in-Ok g c = λ _.
    let value = g.C.CapRep.value in
    let a = c.args.hart.now in
    let held = c.in-Some.held.items in
    let all = subst (λ begin. HoldAll (values value held) begin a.memory)
    (ap (map value) c.deref.ensures.value ∙ c.in_ok-begin.ensures.value)
    (rw c.in-Some.is at c.in_ok-held.ensures) in
    c.in-Ok.ensures (subst (λ xs. HoldAll (values value xs) (roots_of a) a.memory) (sym c.deref-2.ensures.value) all)
