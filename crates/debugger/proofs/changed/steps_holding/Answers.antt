use Rattle.std.proofs.Common.{◌≡◌, true, ◌-◌, ◌∷◌, ◌++◌, length, ◌∙◌, ap, sym, arith}
use Rattle.std.specs.Prelude.{option_to_list}
use Rattle.std.proofs.lemmas.Grind.{common_steps}
use Rattle.steps.specs.Event.{after}
use Rattle.origins.proofs.Stays.{stays-as}
use Rattle.origins.specs.Places.{held}
use Rattle.past.specs.Position.{Position, at, next_position, position_after}
use Rattle.debugger.specs.Stepping.{holds_on, steps_holding}
use Rattle.debugger.proofs.Changes.{no_more, one_more, some}
use Rattle.debugger.proofs.RunSteps.{state_goes_on, bytes_go_on}
use Rattle.debugger.proofs.changed.steps_holding.Goals as goal

pub loop-place-preserved : goal.loop-place-preserved
loop-place-preserved g c =
    let l = c.loop-place in
    let place = c.args.place in
    let v = held place c.args.machine.now in
    let p : Position = at l.replay l.owed in
    let now : Position = at c.next_event-event.new.replay c.next_event-event.new.owed in
    let m = c.event-out.new.self in
    let e = c.next_event-event.result in
    let next = c.next_event-event.ensures in
    let out = c.event-out.ensures in
    let kept = c.emit.ensures in
    let on : holds_on place v l.left p l.machine ≡ true = rw l.invariant.value at (sym c.goes_on.ensures ∙ c.loop-place-test.true) in
    let any = some place v l.left p l.machine on in
    let rest = steps_holding place v (l.left - 1) now m in
    let first = one_more place v l.left p l.machine on
    ∙ ap (λ x. x ∷ steps_holding place v (l.left - 1) (next_position p) (after x l.machine)) (sym next.event)
    ∙ ap (λ q. e ∷ steps_holding place v (l.left - 1) q (after e l.machine)) (sym next.position)
    ∙ ap (λ s. e ∷ steps_holding place v (l.left - 1) now s) (sym out.state) in
    record {
      value = l.invariant.value;
      state = state_goes_on (steps_holding place v l.left p l.machine) e rest first l.machine m out.state _ l.invariant.state;
      bytes = bytes_go_on (steps_holding place v l.left p l.machine) e rest first l.machine m out.state _ l.sent.items _
          (kept.items ∙ ap (λ b. l.sent.items ++ option_to_list b) out.byte) l.invariant.bytes;
      position = ap (position_after (length rest)) next.position
          ∙ sym (ap (λ es. position_after (length es) p) first) ∙ l.invariant.position;
      counted = omega (arith, any, l.invariant.below, l.invariant.counted, ap length first);
      below = omega (arith, l.invariant.below);
      len = omega (arith, any, kept.len, l.invariant.len);
      room = omega (arith, any, kept.len, kept.room, l.invariant.room);
      there = stays-as l.machine m e place l.invariant.is_state l.invariant.there out.state;
      is_state = out.is_state;
    }

pub returns-clause-state : goal.returns-clause-state
returns-clause-state g c =
    let l = c.loop-place in
    let p : Position = at l.replay l.owed in
    let v = held c.args.place c.args.machine.now in
    let e = no_more c.args.place v l.left p l.machine (rw l.invariant.value at (sym c.goes_on.ensures ∙ c.loop-place-test.false)) in
    rw e at l.invariant.state

pub returns-clause-bytes : goal.returns-clause-bytes
returns-clause-bytes g c =
    let l = c.loop-place in
    let p : Position = at l.replay l.owed in
    let v = held c.args.place c.args.machine.now in
    let e = no_more c.args.place v l.left p l.machine (rw l.invariant.value at (sym c.goes_on.ensures ∙ c.loop-place-test.false)) in
    grind (arith, common_steps, rw e at l.invariant.bytes)

pub returns-clause-position : goal.returns-clause-position
returns-clause-position g c =
    let l = c.loop-place in
    let p : Position = at l.replay l.owed in
    let v = held c.args.place c.args.machine.now in
    let e = no_more c.args.place v l.left p l.machine (rw l.invariant.value at (sym c.goes_on.ensures ∙ c.loop-place-test.false)) in
    rw e at l.invariant.position

pub returns-clause-count : goal.returns-clause-count
returns-clause-count g c =
    let l = c.loop-place in
    let p : Position = at l.replay l.owed in
    let v = held c.args.place c.args.machine.now in
    let e = no_more c.args.place v l.left p l.machine (rw l.invariant.value at (sym c.goes_on.ensures ∙ c.loop-place-test.false)) in
    omega (arith, rw e at l.invariant.counted)
