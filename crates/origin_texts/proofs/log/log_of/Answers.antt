use Rattle.std.proofs.Common.{◌≡◌, suc, ◌+◌, ◌<◌, ◌∙◌, ◌∷◌, ap, arith, drop, length, subst, sym}
use Rattle.std.specs.Prelude.{IfSome, option_copied}
use Rattle.steps.specs.Event.{after}
use Rattle.past.proofs.InOrder.{length-events_of}
use Rattle.past.specs.Given.{past_events, state_at}
use Rattle.past.specs.Position.{beginning}
use Rattle.origin_texts.specs.Log.{IsLog}
use Rattle.origin_texts.specs.Origin.{history}
use Rattle.origin_texts.proofs.Histories.{log_next, rest_next, some_next, state_next}
use Rattle.origin_texts.proofs.log.log_of.Goals as goal

pub unwrap-event-requires : goal.unwrap-event-requires
unwrap-event-requires g c =
    let past = c.args.past.now in
    let replay = option_copied c.args.replay in
    let l = c.loop-met in
    let few : l.met < length (past_events past replay) =
    omega (arith, c.loop-met-test.true, c.requires.few, length-events_of past.given (beginning replay)) in
    some_next c.next_event.result l.met (past_events past replay) l.events l.invariant.events c.next_event.ensures.none few

pub loop-met-preserved : goal.loop-met-preserved
loop-met-preserved g c =
    let past = c.args.past.now in
    let replay = option_copied c.args.replay in
    let l = c.loop-met in
    let all = past_events past replay in
    let e = c.unwrap-event.result in
    let rest = c.next_event.new.self in
    let one : suc l.met ≡ l.met + 1 = omega arith in
    let next : drop l.met all ≡ e ∷ rest =
    sym l.invariant.events ∙ subst (λ o. IfSome o (λ event. l.events ≡ event ∷ rest)) c.unwrap-event.ensures c.next_event.ensures.some in
    record {
      low = omega (arith, l.invariant.low);
      high = omega (arith, c.loop-met-test.true);
      machine = c.in_ok-log_event.ensures.state ∙ ap (after e) l.invariant.machine ∙ sym (state_next past replay l.met e rest next)
          ∙ ap (λ k. state_at k past replay) one;
      size = c.in_ok-log_event.ensures.size ∙ l.invariant.size;
      events = sym (rest_next l.met all e rest next) ∙ ap (λ k. drop k all) one;
      log = subst (λ k. IsLog (history past replay) c.args.from k c.log_event.new.log.items) one
          (log_next past replay l.met e rest next c.args.from l.machine l.log.items c.log_event.new.log.items l.invariant.low
          l.invariant.machine l.invariant.size l.invariant.log c.in_ok-log_event.ensures.log);
    }
