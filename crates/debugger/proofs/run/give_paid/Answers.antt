use Rattle.std.proofs.Common.{◌+◌, ◌++◌, ◌∙◌, ap, ap₂, length}
use Rattle.std.specs.Prelude.{option_map}
use Rattle.machine.specs.Run.{run_after, run_sent}
use Rattle.past.specs.Replay.{replayed}
use Rattle.debugger.specs.Reply.{owed_events, own_steps}
use Rattle.debugger.specs.Marked.{seen}
use Rattle.debugger.proofs.Gives.{tick_counted, tick_replayed, tick_run, tick_sent}
use Rattle.debugger.proofs.run.give_paid.Goals as goal

pub returns-clause-state : goal.returns-clause-state
returns-clause-state g c =
    let marks = seen g.C.CapRep.value c.args.marks.now in
    let ticked = c.pass-ticks.ensures.state in
    let own = own_steps c.args.events c.args.replay.now marks in
    c.give_own.ensures.state
    ∙ ap (λ s. run_after (own s) s) ticked
    ∙ tick_run c.args.owed.now (own (run_after (owed_events c.args.owed.now) c.args.machine.now)) c.args.machine.now

pub returns-clause-bytes : goal.returns-clause-bytes
returns-clause-bytes g c =
    let marks = seen g.C.CapRep.value c.args.marks.now in
    let ticked = c.pass-ticks.ensures.state in
    let own = own_steps c.args.events c.args.replay.now marks in
    c.give_own.ensures.bytes
    ∙ ap (λ s. c.args.sent.now.items ++ run_sent (own s) s) ticked
    ∙ ap (λ b. c.args.sent.now.items ++ b)
    (tick_sent c.args.owed.now (own (run_after (owed_events c.args.owed.now) c.args.machine.now)) c.args.machine.now)

pub returns-clause-replay : goal.returns-clause-replay
returns-clause-replay g c =
    let marks = seen g.C.CapRep.value c.args.marks.now in
    let ticked = c.pass-ticks.ensures.state in
    let own = own_steps c.args.events c.args.replay.now marks in
    c.give_own.ensures.replay
    ∙ ap (λ s. option_map (replayed (own s)) c.args.replay.now) ticked
    ∙ tick_replayed c.args.owed.now (own (run_after (owed_events c.args.owed.now) c.args.machine.now)) c.args.replay.now

pub returns-clause-count : goal.returns-clause-count
returns-clause-count g c =
    let marks = seen g.C.CapRep.value c.args.marks.now in
    let ticked = c.pass-ticks.ensures.state in
    let own = own_steps c.args.events c.args.replay.now marks in
    ap₂ (λ a b. a + b) c.pass-ticks.ensures.count (c.give_own.ensures.count ∙ ap (λ s. length (own s)) ticked)
    ∙ tick_counted c.args.owed.now (own (run_after (owed_events c.args.owed.now) c.args.machine.now))
