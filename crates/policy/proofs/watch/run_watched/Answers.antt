use Rattle.std.proofs.Common.{◌≡◌, ◌+◌, ◌++◌, rules, take, refl, sym, ap, ◌∙◌, subst, arith}
use Rattle.std.specs.Prelude.{option_to_list}
use Rattle.policy.specs.Terms.{terms_of}
use Rattle.policy.specs.Watch.{HoldEach, IsRefused}
use Rattle.policy.specs.Lending.{in_force}
use Rattle.policy.specs.Known.{rules_of, said_to}
use Rattle.policy.proofs.Learning.{keeps-to-each}
use Rattle.policy.proofs.Runs.{run-none, kept-none, run-more, kept-more, kept-at, forced-more, on_err}
use Rattle.policy.proofs.watch.run_watched.Goals as goal

pub returns-in_err-reserve-clause-midway : goal.returns-in_err-reserve-clause-midway
returns-in_err-reserve-clause-midway g c = on_err c.from_residual.result _ (record {
  done = 0;
  run = run-none c.args.events.now c.args.machine.now c.args.out.now.items _ c.reserve.ensures.items;
  kept = kept-none (terms_of c.args.rules.now) c.args.events.now c.args.machine.now;
})

pub returns-in_err-refused-clause-midway : goal.returns-in_err-refused-clause-midway
returns-in_err-refused-clause-midway g c = on_err c.from_residual-in_err-refused.result _ (record {
  done = c.loop-event.event-index;
  run = c.loop-event.invariant.run;
  kept = c.loop-event.invariant.kept;
})

pub returns-in-Some-clause-kept : goal.returns-in-Some-clause-kept
returns-in-Some-clause-kept g c =
    let l = c.loop-event in
    kept-at (terms_of c.args.rules.now) c.args.events.now l.event-index l.done c.args.machine.now l.invariant.done l.invariant.kept

pub returns-clause-kept : goal.returns-clause-kept
returns-clause-kept g c =
    let l = c.loop-event in
    kept-at (terms_of c.args.rules.now) c.args.events.now l.event-index l.done c.args.machine.now l.invariant.done l.invariant.kept

pub returns-in_err-watcher-clause-midway : goal.returns-in_err-watcher-clause-midway
returns-in_err-watcher-clause-midway g c = on_err c.from_residual-in_err-watcher.result _ (record {
  done = 0;
  run = run-none c.args.events.now c.args.machine.now c.args.out.now.items _ c.reserve.ensures.items;
  kept = kept-none (terms_of c.args.rules.now) c.args.events.now c.args.machine.now;
})

pub returns-in-Some-clause-refused : goal.returns-in-Some-clause-refused
returns-in-Some-clause-refused g c =
    let by = terms_of c.args.rules.now in
    let same : c.loop-event.done ≡ c.loop-event.event-index = c.loop-event.invariant.done in
    subst (λ n. IsRefused (in_force by (take n c.args.events.now) c.args.machine.now) c.in-Some.refused c.loop-event.machine) (sym same)
    (subst (λ rules. IsRefused rules c.in-Some.refused c.loop-event.machine) c.loop-event.invariant.rules
    (rw c.in-Some.is at c.in_ok-refused.ensures.refused))

pub loop-event-init : goal.loop-event-init
loop-event-init g c =
    let events = c.args.events.now in
    let s = c.args.machine.now in
    record {
      done = refl;
      run = run-none events s c.args.out.now.items _ c.reserve.ensures.items;
      kept = kept-none (terms_of c.args.rules.now) events s;
      said = c.look.ensures.said ∙ c.in_ok-watcher.ensures.said;
      rules = c.look.ensures.rules ∙ c.in_ok-watcher.ensures.rules;
      whole = c.look.ensures.whole;
      knows = c.look.ensures.knows (c.in_ok-watcher.ensures.remembers s);
      room = search rules;
    }

pub meet-requires : goal.meet-requires
meet-requires g c =
    let l = c.loop-event in (
      search rules,
      (l.invariant.whole, (l.invariant.knows, rw c.in_default.is at (c.in_ok-refused.ensures.holds l.invariant.knows))),
    )

pub loop-event-preserved : goal.loop-event-preserved
loop-event-preserved g c =
    let l = c.loop-event in
    let said = terms_of c.args.rules.now in
    let events = c.args.events.now in
    let s = c.args.machine.now in
    let t = l.machine in
    let i = l.event-index in
    let below = c.loop-event-test.true in
    let met = c.in_ok-byte.ensures in
    let next = c.meet.new.machine in
    let now = in_force said (take i events) s in
    let hold : HoldEach now t =
    subst (λ xs. HoldEach xs t) l.invariant.rules (rw c.in_default.is at (c.in_ok-refused.ensures.holds l.invariant.knows)) in
    record {
      done = ap (λ n. n + 1) l.invariant.done;
      run = run-more events i _ below s t c.args.out.now.items l.out.items l.invariant.run next c.emit.new.out.items met.state
          (c.emit.ensures.items ∙ ap (λ b. l.out.items ++ option_to_list b) met.byte);
      kept = kept-more said events i s t l.invariant.run.state (λ e. keeps-to-each now e t l.invariant.knows.state hold)
          l.invariant.kept;
      said = met.said ∙ l.invariant.said;
      rules = met.rules ∙ forced-more said events i _ below s t l.invariant.run.state (said_to l.watcher) (rules_of l.watcher)
          l.invariant.said l.invariant.rules;
      whole = met.whole;
      knows = met.knows;
      room = omega (arith, c.emit.ensures.len, c.emit.ensures.room, l.invariant.room);
    }

pub returns-in_err-byte-clause-midway : goal.returns-in_err-byte-clause-midway
returns-in_err-byte-clause-midway g c =
    let l = c.loop-event in
    on_err c.from_residual-in_err-byte.result _ (record {
      done = l.event-index;
      run = record {
        some = l.invariant.run.some;
        state = c.in_err-byte.ensures.same ∙ l.invariant.run.state;
        bytes = l.invariant.run.bytes;
      };
      kept = l.invariant.kept;
    })
