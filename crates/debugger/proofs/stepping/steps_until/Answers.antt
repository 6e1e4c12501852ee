use Rattle.std.proofs.Common.{◌≡◌, true, ◌-◌, ◌∷◌, ◌++◌, length, ◌∙◌, ap, sym, arith}
use Rattle.std.specs.Prelude.{None, option_to_list}
use Rattle.std.proofs.lemmas.Grind.{common_steps}
use Rattle.steps.specs.declared.event.Event.TheVariants.{Step}
use Rattle.debugger.specs.Lines.{goes_on}
use Rattle.debugger.specs.Stepping.{steps_while}
use Rattle.debugger.specs.Marked.{seen}
use Rattle.debugger.specs.Stops.{ends}
use Rattle.debugger.proofs.RunSteps.{state_goes_on, bytes_go_on, one_step, no_step, room_after, some_step}
use Rattle.debugger.proofs.stepping.steps_until.Goals as goal

pub loop-planned-preserved : goal.loop-planned-preserved
loop-planned-preserved g c =
    let l = c.loop-planned in
    let here = ends (seen g.C.CapRep.value l.marks.now) l.ends_unfetched in
    let later = ends (seen g.C.CapRep.value c.args.later.now) c.args.unfetched in
    let m = c.apply-out.new.self in
    let kept = c.keep_sent-room.ensures in
    let k = c.keep_sent-room.result in
    let more : goes_on here l.left l.room l.machine ≡ true = rw c.in-Some.is at c.next_given.ensures.given in
    let some = some_step here l.left l.room l.machine more in
    let any = rw c.in-Some.is at c.next_given.ensures.some in
    let less : room_after l.room l.machine ≡ l.room - k =
    sym (ap (λ n. l.room - n) (kept.count ∙ ap (λ b. length (option_to_list b)) c.apply-out.ensures.byte)) in
    let first = one_step here later l.left l.room l.machine m c.apply-out.ensures.state more
    ∙ ap (λ room. Step ∷ steps_while later later None (l.left - 1) room m) less in
    let towards = c.run_towards-fast.ensures in
    record {
      state = towards.state ∙ state_goes_on (steps_while here later None l.left l.room l.machine) Step
          (steps_while later later None (l.left - 1) (l.room - k) m) first l.machine m c.apply-out.ensures.state _ l.invariant.state;
      bytes = ap (λ bytes. c.keep_sent-room.new.sent.items ++ bytes) towards.bytes
          ∙ bytes_go_on (steps_while here later None l.left l.room l.machine) Step
          (steps_while later later None (l.left - 1) (l.room - k) m) first l.machine m c.apply-out.ensures.state _ l.sent.items _
          (kept.items ∙ ap (λ b. l.sent.items ++ option_to_list b) c.apply-out.ensures.byte) l.invariant.bytes;
      count = omega (arith, some, l.invariant.below, l.invariant.count, ap length first, towards.few, towards.count);
      below = omega (arith, l.invariant.below, towards.few);
      len = omega (arith, any, kept.len, kept.bound, l.invariant.len);
      room = omega (arith, any, kept.len, kept.bound, kept.room, l.invariant.room);
    }

pub returns-clause-state : goal.returns-clause-state
returns-clause-state g c =
    let l = c.loop-planned in
    let here = ends (seen g.C.CapRep.value l.marks.now) l.ends_unfetched in
    let later = ends (seen g.C.CapRep.value c.args.later.now) c.args.unfetched in
    let e = no_step here later l.left l.room l.machine (rw c.in_default.is at c.next_given.ensures.stopped) in
    rw e at l.invariant.state

pub returns-clause-bytes : goal.returns-clause-bytes
returns-clause-bytes g c =
    let l = c.loop-planned in
    let here = ends (seen g.C.CapRep.value l.marks.now) l.ends_unfetched in
    let later = ends (seen g.C.CapRep.value c.args.later.now) c.args.unfetched in
    let e = no_step here later l.left l.room l.machine (rw c.in_default.is at c.next_given.ensures.stopped) in
    grind (arith, common_steps, rw e at l.invariant.bytes)

pub returns-clause-count : goal.returns-clause-count
returns-clause-count g c =
    let l = c.loop-planned in
    let here = ends (seen g.C.CapRep.value l.marks.now) l.ends_unfetched in
    let later = ends (seen g.C.CapRep.value c.args.later.now) c.args.unfetched in
    let e = no_step here later l.left l.room l.machine (rw c.in_default.is at c.next_given.ensures.stopped) in
    omega (arith, rw e at l.invariant.count)
