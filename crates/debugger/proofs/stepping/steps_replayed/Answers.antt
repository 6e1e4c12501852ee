use Rattle.std.proofs.Common.{◌≡◌, ◌-◌, ◌++◌, ◌∙◌, true, false, length, ap, sym, append_assoc, append-nil, arith, rules}
use Rattle.std.specs.Prelude.{Some, option_to_list}
use Rattle.std.proofs.lemmas.Grind.{common_steps}
use Rattle.steps.specs.declared.event.Event.TheVariants.{Step}
use Rattle.steps.specs.Event.{sent}
use Rattle.machine.specs.Run.{run_after, run_sent}
use Rattle.schedules.proofs.Events.{run_sent-brought}
use Rattle.debugger.specs.Stepping.{is_at_end, steps_while}
use Rattle.debugger.specs.Marked.{seen}
use Rattle.debugger.specs.Stops.{ends, is_end}
use Rattle.past.specs.Replay.{byte_due, replayed}
use Rattle.debugger.proofs.ReplaySteps.{at-end, none-left, room-left, runs-on, stops, state-goes-on, bytes-go-on, replay-goes-on}
use Rattle.debugger.proofs.ReplaySteps.{count-goes-on}
use Rattle.debugger.proofs.stepping.steps_replayed.Goals as goal

pub is_end-requires : goal.is_end-requires
is_end-requires g c =
    let l = c.loop-left in
    let more : is_at_end (Some l.replay) l.room l.machine ≡ false = sym c.is_at_end.ensures ∙ c.if-not-is_at_end.true in
    (search rules, (c.next-planned.ensures.effect, c.bring-count.ensures.halted ∙ runs-on l.replay l.room l.machine more))

pub returns-then-is_end-clause-state : goal.returns-then-is_end-clause-state
returns-then-is_end-clause-state g c =
    let l = c.loop-left in
    let here = ends (seen g.C.CapRep.value l.marks.now) l.ends_unfetched in
    let later = ends (seen g.C.CapRep.value c.args.later.now) c.args.unfetched in
    let b = c.bring-count in
    let more : is_at_end (Some l.replay) l.room l.machine ≡ false = sym c.is_at_end.ensures ∙ c.if-not-is_at_end.true in
    let there : is_end here b.new.machine ≡ true = sym c.is_end.ensures ∙ c.if-is_end.true in
    b.ensures.state
    ∙ ap (λ es. run_after es l.machine)
    (sym (stops here later l.left l.room c.loop-left-test.true l.replay b.new.replay l.machine b.new.machine more
    b.ensures.state b.ensures.replay there))
    ∙ l.invariant.state

pub returns-then-is_end-clause-bytes : goal.returns-then-is_end-clause-bytes
returns-then-is_end-clause-bytes g c =
    let l = c.loop-left in
    let here = ends (seen g.C.CapRep.value l.marks.now) l.ends_unfetched in
    let later = ends (seen g.C.CapRep.value c.args.later.now) c.args.unfetched in
    let b = c.bring-count in
    let more : is_at_end (Some l.replay) l.room l.machine ≡ false = sym c.is_at_end.ensures ∙ c.if-not-is_at_end.true in
    let there : is_end here b.new.machine ≡ true = sym c.is_end.ensures ∙ c.if-is_end.true in
    sym
    (ap (λ bytes. l.sent.items ++ bytes)
    (ap (λ es. run_sent es l.machine)
    (stops here later l.left l.room c.loop-left-test.true l.replay b.new.replay l.machine b.new.machine more
    b.ensures.state b.ensures.replay there)
    ∙ run_sent-brought (byte_due (Some l.replay)) l.machine)
    ∙ append-nil l.sent.items)
    ∙ l.invariant.bytes

pub returns-then-is_end-clause-replay : goal.returns-then-is_end-clause-replay
returns-then-is_end-clause-replay g c =
    let l = c.loop-left in
    let here = ends (seen g.C.CapRep.value l.marks.now) l.ends_unfetched in
    let later = ends (seen g.C.CapRep.value c.args.later.now) c.args.unfetched in
    let b = c.bring-count in
    let more : is_at_end (Some l.replay) l.room l.machine ≡ false = sym c.is_at_end.ensures ∙ c.if-not-is_at_end.true in
    let there : is_end here b.new.machine ≡ true = sym c.is_end.ensures ∙ c.if-is_end.true in
    b.ensures.replay
    ∙ ap (λ es. replayed es l.replay)
    (sym (stops here later l.left l.room c.loop-left-test.true l.replay b.new.replay l.machine b.new.machine more
    b.ensures.state b.ensures.replay there))
    ∙ l.invariant.replay

pub returns-then-is_end-clause-count : goal.returns-then-is_end-clause-count
returns-then-is_end-clause-count g c =
    let l = c.loop-left in
    let here = ends (seen g.C.CapRep.value l.marks.now) l.ends_unfetched in
    let later = ends (seen g.C.CapRep.value c.args.later.now) c.args.unfetched in
    let b = c.bring-count in
    let more : is_at_end (Some l.replay) l.room l.machine ≡ false = sym c.is_at_end.ensures ∙ c.if-not-is_at_end.true in
    let there : is_end here b.new.machine ≡ true = sym c.is_end.ensures ∙ c.if-is_end.true in
    let all = ap length
    (stops here later l.left l.room c.loop-left-test.true l.replay b.new.replay l.machine b.new.machine more
    b.ensures.state b.ensures.replay there) in
    omega (arith, all, b.ensures.count, l.invariant.counted)

pub give_step-met-requires : goal.give_step-met-requires
give_step-met-requires g c =
    let l = c.loop-left in
    let more : is_at_end (Some l.replay) l.room l.machine ≡ false = sym c.is_at_end.ensures ∙ c.if-not-is_at_end.true in
    let any = room-left l.replay l.room l.machine more in
    (search rules, (search rules, (c.bring-count.ensures.more, omega (arith, any, l.invariant.room))))

pub overflow_sub-room : goal.overflow_sub-room
overflow_sub-room g c =
    let l = c.loop-left in
    let more : is_at_end (Some l.replay) l.room l.machine ≡ false = sym c.is_at_end.ensures ∙ c.if-not-is_at_end.true in
    let any = room-left l.replay l.room l.machine more in
    omega (arith, any, c.give_step-met.ensures.one)

pub loop-left-preserved : goal.loop-left-preserved
loop-left-preserved g c =
    let l = c.loop-left in
    let here = ends (seen g.C.CapRep.value l.marks.now) l.ends_unfetched in
    let b = c.bring-count in
    let met = c.give_step-met in
    let first = ends (seen g.C.CapRep.value l.marks.now) l.ends_unfetched in
    let later = ends (seen g.C.CapRep.value c.args.later.now) c.args.unfetched in
    let some = c.loop-left-test.true in
    let more : is_at_end (Some l.replay) l.room l.machine ≡ false = sym c.is_at_end.ensures ∙ c.if-not-is_at_end.true in
    let there : is_end here b.new.machine ≡ false = sym c.is_end.ensures ∙ c.if-is_end.false in
    let any = room-left l.replay l.room l.machine more in
    let count = count-goes-on first later l.left l.room some l.replay b.new.replay l.machine b.new.machine more b.ensures.state
    b.ensures.replay there met.new.replay met.new.machine met.result.sent met.ensures.state met.ensures.replay met.ensures.sent in
    let rest = run_sent (steps_while later later (Some met.new.replay) (l.left - 1) (l.room - met.result.sent) met.new.machine)
    met.new.machine in
    record {
      state = state-goes-on first later l.left l.room some l.replay b.new.replay l.machine b.new.machine more b.ensures.state
          b.ensures.replay there met.new.replay met.new.machine met.result.sent met.ensures.state met.ensures.replay met.ensures.sent
          ∙ l.invariant.state;
      bytes = ap (λ bytes. bytes ++ rest) met.ensures.bytes
          ∙ append_assoc l.sent.items (option_to_list (sent Step b.new.machine)) rest
          ∙ ap (λ bytes. l.sent.items ++ bytes)
          (bytes-go-on first later l.left l.room some l.replay b.new.replay l.machine b.new.machine more b.ensures.state
          b.ensures.replay there met.new.replay met.new.machine met.result.sent met.ensures.state met.ensures.replay met.ensures.sent)
          ∙ l.invariant.bytes;
      replay = replay-goes-on first later l.left l.room some l.replay b.new.replay l.machine b.new.machine more b.ensures.state
          b.ensures.replay there met.new.replay met.new.machine met.result.sent met.ensures.state met.ensures.replay met.ensures.sent
          ∙ l.invariant.replay;
      counted = omega (arith, count, b.ensures.count, met.ensures.count, l.invariant.counted);
      below = omega (arith, l.invariant.below);
      few = omega (arith, some, b.ensures.bound, met.ensures.few, l.invariant.few);
      len = omega (arith, any, met.ensures.one, met.ensures.len, l.invariant.len);
      room = omega (arith, any, met.ensures.one, met.ensures.len, met.ensures.capacity, l.invariant.room);
    }

pub returns-else-not-is_at_end-clause-state : goal.returns-else-not-is_at_end-clause-state
returns-else-not-is_at_end-clause-state g c =
    let l = c.loop-left in
    let here = ends (seen g.C.CapRep.value l.marks.now) l.ends_unfetched in
    let later = ends (seen g.C.CapRep.value c.args.later.now) c.args.unfetched in
    let e = at-end here later l.left l.room l.replay l.machine (sym c.is_at_end.ensures ∙ c.if-not-is_at_end.false) in
    rw e at l.invariant.state

pub returns-else-not-is_at_end-clause-bytes : goal.returns-else-not-is_at_end-clause-bytes
returns-else-not-is_at_end-clause-bytes g c =
    let l = c.loop-left in
    let here = ends (seen g.C.CapRep.value l.marks.now) l.ends_unfetched in
    let later = ends (seen g.C.CapRep.value c.args.later.now) c.args.unfetched in
    let e = at-end here later l.left l.room l.replay l.machine (sym c.is_at_end.ensures ∙ c.if-not-is_at_end.false) in
    grind (arith, common_steps, rw e at l.invariant.bytes)

pub returns-else-not-is_at_end-clause-replay : goal.returns-else-not-is_at_end-clause-replay
returns-else-not-is_at_end-clause-replay g c =
    let l = c.loop-left in
    let here = ends (seen g.C.CapRep.value l.marks.now) l.ends_unfetched in
    let later = ends (seen g.C.CapRep.value c.args.later.now) c.args.unfetched in
    let e = at-end here later l.left l.room l.replay l.machine (sym c.is_at_end.ensures ∙ c.if-not-is_at_end.false) in
    rw e at l.invariant.replay

pub returns-else-not-is_at_end-clause-count : goal.returns-else-not-is_at_end-clause-count
returns-else-not-is_at_end-clause-count g c =
    let l = c.loop-left in
    let here = ends (seen g.C.CapRep.value l.marks.now) l.ends_unfetched in
    let later = ends (seen g.C.CapRep.value c.args.later.now) c.args.unfetched in
    let e = at-end here later l.left l.room l.replay l.machine (sym c.is_at_end.ensures ∙ c.if-not-is_at_end.false) in
    omega (arith, rw e at l.invariant.counted)

pub returns-after-loop-left-clause-state : goal.returns-after-loop-left-clause-state
returns-after-loop-left-clause-state g c =
    let l = c.loop-left in
    let here = ends (seen g.C.CapRep.value l.marks.now) l.ends_unfetched in
    let later = ends (seen g.C.CapRep.value c.args.later.now) c.args.unfetched in
    let e = none-left here later l.left l.room l.replay l.machine (omega (arith, c.loop-left-test.false)) in
    rw e at l.invariant.state

pub returns-after-loop-left-clause-bytes : goal.returns-after-loop-left-clause-bytes
returns-after-loop-left-clause-bytes g c =
    let l = c.loop-left in
    let here = ends (seen g.C.CapRep.value l.marks.now) l.ends_unfetched in
    let later = ends (seen g.C.CapRep.value c.args.later.now) c.args.unfetched in
    let e = none-left here later l.left l.room l.replay l.machine (omega (arith, c.loop-left-test.false)) in
    grind (arith, common_steps, rw e at l.invariant.bytes)

pub returns-after-loop-left-clause-replay : goal.returns-after-loop-left-clause-replay
returns-after-loop-left-clause-replay g c =
    let l = c.loop-left in
    let here = ends (seen g.C.CapRep.value l.marks.now) l.ends_unfetched in
    let later = ends (seen g.C.CapRep.value c.args.later.now) c.args.unfetched in
    let e = none-left here later l.left l.room l.replay l.machine (omega (arith, c.loop-left-test.false)) in
    rw e at l.invariant.replay

pub returns-after-loop-left-clause-count : goal.returns-after-loop-left-clause-count
returns-after-loop-left-clause-count g c =
    let l = c.loop-left in
    let here = ends (seen g.C.CapRep.value l.marks.now) l.ends_unfetched in
    let later = ends (seen g.C.CapRep.value c.args.later.now) c.args.unfetched in
    let e = none-left here later l.left l.room l.replay l.machine (omega (arith, c.loop-left-test.false)) in
    omega (arith, rw e at l.invariant.counted)
