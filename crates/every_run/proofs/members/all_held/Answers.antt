use Rattle.std.proofs.Common.{map, sym, subst}
use Rattle.std.specs.List.{Contains}
use Rattle.steps.specs.State.{HoldsCapabilities}
use Rattle.reached.specs.Links.{values}
use Rattle.doors.specs.Closed.{HasDoors}
use Rattle.every_run.proofs.Found.{BeginsWithAll, all-found, begun-more}
use Rattle.every_run.proofs.members.all_held.Goals as goal

pub closure-requires : goal.closure-requires
closure-requires g c = record { capabilities = subst HoldsCapabilities (sym c.memory.ensures.value) c.memory.ensures.well_formed }

pub returns-in_default : goal.returns-in_default
returns-in_default g c =
    let value = g.C.CapRep.value in
    let begin = map value c.args.begin.now in
    all-found begin (map value c.deref.result.now) (map value c.deref-in-loop.result.now) c.memory.result.now
    c.args.hart.now.memory c.memory.ensures.value
    (subst (λ xs. BeginsWithAll (map value xs) begin) (sym c.deref.ensures.value) c.loop.invariant)
    (values value c.in_ok-members.members.items) c.in_ok-members.ensures.sound c.in_ok-members.ensures.complete
    (subst (λ xs. HasDoors (Contains (values value xs))) c.deref-in-loop-2.ensures.value c.in_default.ensures)

pub loop-preserved : goal.loop-preserved
loop-preserved g c =
    begun-more g.C.CapRep.value (map g.C.CapRep.value c.args.begin.now) c.loop.starts.items c.push.new.self.items c.in-Some.behind
    c.in_ok-push.ensures.items c.loop.invariant
