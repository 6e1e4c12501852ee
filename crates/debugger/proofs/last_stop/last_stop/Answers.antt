use Rattle.std.proofs.Common.{◌≡◌, ◌+◌, ◌<◌, ◌∷◌, ◌∙◌, Some, length, drop, sym, ap, subst, arith}
use Rattle.std.specs.Prelude.{if◌then◌else◌, IfSome}
use Rattle.debugger.specs.LastStop.{last_stop}
use Rattle.debugger.specs.Marked.{seen}
use Rattle.debugger.proofs.LastStops.{before_more, last_one, rest_one, state_one}
use Rattle.debugger.proofs.last_stop.last_stop.Goals as goal
use Rattle.debugger.proofs.last_stop.last_stop.Goals.{then-meet, else-meet}

pub loop-event-preserved : goal.loop-event-preserved
loop-event-preserved g c =
    let l = c.loop-event in
    let k = l.place in
    let marks = seen g.C.CapRep.value c.args.marks.now in
    let all = c.args.events.now in
    let s = c.args.machine.now in
    let e = c.in-Some.event in
    let later = c.next_event.new.self in
    let rest : drop k all ≡ e ∷ later = l.invariant.rest ∙ c.in-Some.ensures.some in
    let one = last_one k all later e s l.machine rest l.invariant.state marks c.meet.result c.meet.ensures.stop in
    record {
      rest = rest_one k all later e s l.machine rest l.invariant.state;
      state = c.meet.ensures.state ∙ state_one k all later e s l.machine rest l.invariant.state;
      last =
          elim c.if-meet.branch [
            | then-meet w ↦ w.last-is ∙ sym (ap (λ b. if b then Some k else last_stop marks all s k) w.if-meet.true) ∙ one
            | else-meet w ↦
                w.last-is ∙ l.invariant.last ∙ sym (ap (λ b. if b then Some k else last_stop marks all s k) w.if-meet.false) ∙ one
          ];
      before =
          elim c.if-meet.branch [
            | then-meet w ↦ subst (λ last. IfSome last (λ place. place < k + 1)) (sym w.last-is) (omega arith)
            | else-meet w ↦ subst (λ last. IfSome last (λ place. place < k + 1)) (sym w.last-is) (before_more l.last k l.invariant.before)
          ];
      count = omega (arith, l.invariant.count, ap length c.in-Some.ensures.some);
    }
