use Rattle.std.proofs.Common.{◌≡◌, ◌+◌, ◌-◌, ◌++◌, length, take, None, sym, ap, ap₂, ◌∙◌, subst, refl, arith}
use Rattle.std.specs.Prelude.{option_to_list}
use Rattle.machine.specs.Run.{run_after, run_sent}
use Rattle.schedules.specs.Schedule.{steps_in}
use Rattle.cherisim_c.specs.Running.{stop_at}
use Rattle.cherisim_c.specs.Walks.{GoesOnFrom}
use Rattle.cherisim_c.proofs.Runs.{some-left, still-running, some-room, nothing, none-left, append-none, at-most-one}
use Rattle.cherisim_c.proofs.Runs.{loop-state, loop-sent, loop-steps}
use Rattle.cherisim_c.proofs.running.run.Goals as goal

pub meet_some-met-requires-clause-some : goal.meet_some-met-requires-clause-some
meet_some-met-requires-clause-some c =
    let l = c.loop-stop in
    some-left c.args.asked l.left (length l.out - l.sent) l.machine
    (sym l.invariant.stop ∙ nothing l.stop c.is_none.result c.is_none.ensures c.loop-stop-test.true)

pub meet_some-met-requires-clause-running : goal.meet_some-met-requires-clause-running
meet_some-met-requires-clause-running c =
    let l = c.loop-stop in
    still-running c.args.asked l.left (length l.out - l.sent) l.machine
    (sym l.invariant.stop ∙ nothing l.stop c.is_none.result c.is_none.ensures c.loop-stop-test.true)

pub put-sent-requires : goal.put-sent-requires
put-sent-requires c =
    let l = c.loop-stop in
    let room = some-room c.args.asked l.left (length l.out - l.sent) l.machine
    (sym l.invariant.stop ∙ nothing l.stop c.is_none.result c.is_none.ensures c.loop-stop-test.true) in
    omega (arith, room)

pub loop-stop-preserved : goal.loop-stop-preserved
loop-stop-preserved c =
    let l = c.loop-stop in
    let a = c.args.asked in
    let s = l.machine in
    let met = c.meet_some-met in
    let k = met.result.steps in
    let byte = met.result.byte in
    let put = c.put-sent in
    let room = length l.out - l.sent in
    let go : stop_at a l.left room s ≡ None = sym l.invariant.stop
    ∙ nothing l.stop c.is_none.result c.is_none.ensures c.loop-stop-test.true in
    let number : c.from.result + c.from-in-loop-stop.result ≡ a.before + (a.steps - l.left) =
    ap₂ (λ x y. x + y) c.from.ensures c.from-in-loop-stop.ensures in
    let on = subst (λ n. GoesOnFrom a n l.left room k byte s met.new.machine) number (met.ensures.on room go) in
    let space = some-room a l.left room s go in
    let one = at-most-one byte in
    let more = length put.new.out - put.result in
    let smaller : more ≡ room - length (option_to_list byte) = omega (arith, put.ensures.length, put.ensures.next) in
    record {
      few = omega (arith, l.invariant.few);
      room = omega (arith, put.ensures.length, put.ensures.next, space, one);
      same = put.ensures.length ∙ l.invariant.same;
      stop = c.stop_of-stop-in-loop-stop.ensures;
      state = loop-state a l.left k room (l.left - k) more byte s met.new.machine l.invariant.few met.ensures.few on refl smaller _
          l.invariant.state;
      bytes = loop-sent a l.left k room (l.left - k) more byte s met.new.machine l.invariant.few met.ensures.few on refl smaller
          (take l.sent l.out) (take put.result put.new.out) _ put.ensures.bytes l.invariant.bytes;
      steps = loop-steps a l.left k room (l.left - k) more byte s met.new.machine l.invariant.few met.ensures.few on refl smaller _
          l.invariant.steps;
    }

pub returns-clause-state : goal.returns-clause-state
returns-clause-state c =
    let l = c.loop-stop in
    let over = none-left c.args.asked l.left (length l.out - l.sent) l.machine l.stop c.is_none.result l.invariant.stop c.is_none.ensures
    c.loop-stop-test.false in
    sym (ap (λ es. run_after es l.machine) over) ∙ l.invariant.state

pub returns-clause-bytes : goal.returns-clause-bytes
returns-clause-bytes c =
    let l = c.loop-stop in
    let over = none-left c.args.asked l.left (length l.out - l.sent) l.machine l.stop c.is_none.result l.invariant.stop c.is_none.ensures
    c.loop-stop-test.false in
    sym (append-none (take l.sent l.out)) ∙ sym (ap (λ es. take l.sent l.out ++ run_sent es l.machine) over) ∙ l.invariant.bytes

pub returns-clause-steps : goal.returns-clause-steps
returns-clause-steps c =
    let l = c.loop-stop in
    let over = none-left c.args.asked l.left (length l.out - l.sent) l.machine l.stop c.is_none.result l.invariant.stop c.is_none.ensures
    c.loop-stop-test.false in
    let none = ap steps_in over in
    omega (arith, none, l.invariant.steps)
