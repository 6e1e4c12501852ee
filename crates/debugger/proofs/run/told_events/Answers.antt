use Rattle.std.proofs.Common.{◌≡◌, ◌++◌, IfOk, OnOk, ap, subst, ◌∙◌}
use Rattle.std.specs.Prelude.{string_bytes}
use Rattle.machine.specs.Run.{run_after}
use Rattle.debugger.specs.Marked.{seen}
use Rattle.debugger.specs.Reply.{after_events, events_line, given_at, marks_for, said_after}
use Rattle.debugger.specs.SessionState.{TimelineState}
use Rattle.debugger.proofs.run.told_events.Goals as goal

pub returns-clause-text : goal.returns-clause-text
returns-clause-text g c =
    let events = c.args.events in
    let t = c.args.timeline.now in
    let same = ap (seen g.C.CapRep.value) c.deref.ensures.value ∙ c.in_ok-marks.ensures
    ∙ ap (λ (time : TimelineState). marks_for events c.args.stops.now time.machine) c.timeline.view_is in
    subst (λ marks. IfOk c.told_at.result (λ text. string_bytes text
    ≡ events_line c.args.symbols.now (given_at events marks t) t.machine
    ++ said_after events marks (run_after (given_at events marks t) t.machine))) same c.told_at.ensures.text

pub returns-clause-state : goal.returns-clause-state
returns-clause-state g c =
    let events = c.args.events in
    let t = c.args.timeline.now in
    let same = ap (seen g.C.CapRep.value) c.deref.ensures.value ∙ c.in_ok-marks.ensures
    ∙ ap (λ (time : TimelineState). marks_for events c.args.stops.now time.machine) c.timeline.view_is in
    subst (λ marks. OnOk c.told_at.result (c.told_at.new.timeline ≡ after_events events (given_at events marks t) t)) same
    c.told_at.ensures.state
