use Rattle.std.proofs.Common.{◌≤◌, ◌++◌, ◌+◌, ap, refl, sym, ◌∙◌, arith, subst, take, drop, length, None, Some, Option, rules}
use Rattle.std.proofs.lemmas.Grind.{common_steps}
use Rattle.std.proofs.lemmas.List.{append-nil, drop_all}
use Rattle.std.specs.Prelude.{option_to_list}
use Rattle.machine.proofs.Stretches.{KeepsUpTo-none, ArePlain-more, rights-kept, seals-kept, left-kept, silent-kept, ends-before}
use Rattle.machine.proofs.Stretches.{plain-next, state-next, bytes-next, keeps-next}
use Rattle.machine.proofs.Twins.{AreTwins-none, AreTwins-more, IsSameStretch-twins}
use Rattle.steps.specs.IsState.{IsState}
use Rattle.steps.specs.declared.ends.Why.{Why}
use Rattle.machine.specs.Stretch.{EndsBefore}
use Rattle.machine.specs.Run.{run_after}
use Rattle.machine.proofs.machine.Machine.run_stretch.Goals as goal

pub loop-event-init : goal.loop-event-init
loop-event-init g c = record {
  done = refl;
  state = refl;
  bytes = c.reserve.ensures.items ∙ sym (append-nil c.args.out.now.items);
  plain = tt;
  keeps = KeepsUpTo-none c.args.events.now c.args.self.now;
  twins = AreTwins-none c.args.events.now c.args.self.now;
  room = grind (arith, common_steps);
}

pub loop-event-preserved : goal.loop-event-preserved
loop-event-preserved g c =
    let l = c.loop-event in
    let events = c.args.events.now in
    let s = c.args.self.now in
    let i = l.event-index in
    let below = c.loop-event-test.true in
    let met = c.meet_plain.ensures in
    let why : Option Why = None in
    let told = sym (rw c.in-Ok.is at met.plain) in
    let state = rw c.in-Ok.is at met.state in
    let byte = rw c.in-Ok.is at met.byte in
    let none = refl in
    record {
      done = ap (λ n. n + 1) l.invariant.done;
      state = state-next events i _ below l.self why told s l.invariant.state c.meet_plain.new.self state;
      bytes = bytes-next events i _ below l.self why told s l.invariant.state c.emit.new.out.items l.out.items c.args.out.now.items
          (c.emit.ensures.items ∙ ap (λ b. l.out.items ++ option_to_list b) byte) l.invariant.bytes;
      plain = ArePlain-more events i _ below s l.invariant.plain (plain-next events i _ below l.self why told s l.invariant.state none);
      keeps = keeps-next events i _ below l.self why told s l.invariant.state none met.was_state l.invariant.keeps;
      twins = λ t agree. AreTwins-more events i _ below s (subst IsState l.invariant.state met.was_state)
          (plain-next events i _ below l.self why told s l.invariant.state none) t (l.invariant.twins t agree);
      room = omega (arith, c.emit.ensures.len, c.emit.ensures.room, l.invariant.room);
    }

pub returns-in-Err-clause-end : goal.returns-in-Err-clause-end
returns-in-Err-clause-end g c =
    let l = c.loop-event in
    subst (EndsBefore (Some c.in-Err.why) (drop l.done c.args.events.now)) (sym (rw c.in-Err.is at c.meet_plain.ensures.same))
    (ends-before c.args.events.now l.event-index _ c.loop-event-test.true l.self (Some c.in-Err.why)
    (sym (rw c.in-Err.is at c.meet_plain.ensures.why)) l.done l.invariant.done refl)

pub returns-in-Err-clause-no_new_rights : goal.returns-in-Err-clause-no_new_rights
returns-in-Err-clause-no_new_rights g c =
    let l = c.loop-event in
    rights-kept c.args.events.now c.args.self.now l.event-index l.done l.invariant.done l.invariant.keeps

pub returns-in-Err-clause-new_seals : goal.returns-in-Err-clause-new_seals
returns-in-Err-clause-new_seals g c =
    let l = c.loop-event in
    seals-kept c.args.events.now c.args.self.now l.event-index l.done l.invariant.done l.invariant.keeps

pub returns-in-Err-clause-left_alone : goal.returns-in-Err-clause-left_alone
returns-in-Err-clause-left_alone g c =
    let l = c.loop-event in
    left-kept c.args.events.now c.args.self.now l.event-index l.done l.invariant.done l.invariant.keeps

pub returns-in-Err-clause-silent : goal.returns-in-Err-clause-silent
returns-in-Err-clause-silent g c =
    let l = c.loop-event in
    silent-kept c.args.events.now c.args.self.now l.event-index l.done l.invariant.done l.invariant.keeps

pub returns-clause-no_new_rights : goal.returns-clause-no_new_rights
returns-clause-no_new_rights g c =
    let l = c.loop-event in
    rights-kept c.args.events.now c.args.self.now l.event-index l.done l.invariant.done l.invariant.keeps

pub returns-clause-new_seals : goal.returns-clause-new_seals
returns-clause-new_seals g c =
    let l = c.loop-event in
    seals-kept c.args.events.now c.args.self.now l.event-index l.done l.invariant.done l.invariant.keeps

pub returns-clause-left_alone : goal.returns-clause-left_alone
returns-clause-left_alone g c =
    let l = c.loop-event in
    left-kept c.args.events.now c.args.self.now l.event-index l.done l.invariant.done l.invariant.keeps

pub returns-clause-silent : goal.returns-clause-silent
returns-clause-silent g c =
    let l = c.loop-event in
    silent-kept c.args.events.now c.args.self.now l.event-index l.done l.invariant.done l.invariant.keeps

pub returns-in-Err-clause-two_worlds : goal.returns-in-Err-clause-two_worlds
returns-in-Err-clause-two_worlds g c =
    let l = c.loop-event in
    let events = c.args.events.now in
    let s = c.args.self.now in
    let why = Some c.in-Err.why in
    let below = c.loop-event-test.true in
    let reached = l.invariant.state ∙ ap (λ n. run_after (take n events) s) (sym l.invariant.done) in
    IsSameStretch-twins events s l.event-index l.done l.invariant.done (omega arith) l.invariant.twins why
    (subst (EndsBefore why (drop l.done events)) reached
    (ends-before events l.event-index _ below l.self why (sym (rw c.in-Err.is at c.meet_plain.ensures.why)) l.done l.invariant.done
    refl))

pub returns-clause-two_worlds : goal.returns-clause-two_worlds
returns-clause-two_worlds g c =
    let l = c.loop-event in
    let events = c.args.events.now in
    let s = c.args.self.now in
    let all : length events ≤ l.done = omega arith in
    IsSameStretch-twins events s l.event-index l.done l.invariant.done (omega arith) l.invariant.twins None (drop_all l.done events all)

pub returns-in-Err-clause-state : goal.returns-in-Err-clause-state
returns-in-Err-clause-state g c = search rules

pub returns-clause-state : goal.returns-clause-state
returns-clause-state g c = search rules

pub returns-clause-bytes : goal.returns-clause-bytes
returns-clause-bytes g c = search rules

pub returns-clause-end : goal.returns-clause-end
returns-clause-end g c = grind (arith, common_steps)
