use Rattle.std.proofs.Common.{◌≡◌, ◌⊎◌, Some, None, IfOk, IfErr, ap, subst, sym, ◌∙◌}
use Rattle.std.specs.Prelude.{option_copied}
use Rattle.debug_commands.specs.declared.fault.DebugFault.TheVariants.{B2, B4}
use Rattle.word_cap.specs.WordCap.{word_value}
use Rattle.debugger.specs.LastStop.{since_stop}
use Rattle.debugger.specs.Marked.{seen}
use Rattle.debugger.specs.Reply.{distance_in}
use Rattle.debugger.specs.SessionState.{TimelineState}
use Rattle.debugger.specs.Stops.{marks_of}
use Rattle.debugger.proofs.recalling.distance_in.Goals as goal

pub returns-in_ok-marks-in-ToStop-clause-ok : goal.returns-in_ok-marks-in-ToStop-clause-ok
returns-in_ok-marks-in-ToStop-clause-ok g c =
    let t = c.timeline.inside in
    let stops = c.args.stops.now in
    let replay = option_copied c.as_ref.result in
    let marks = ap (seen word_value) c.deref.ensures.value ∙ c.in_ok-marks-in-ToStop.ensures in
    let there = ap (λ m. since_stop m replay t.past) marks
    ∙ ap (λ r. since_stop (marks_of t.machine stops) r t.past) c.as_ref.ensures.value
    ∙ ap (λ (time : TimelineState). since_stop (marks_of time.machine stops) time.replay time.past) c.timeline.view_is
    ∙ ap (λ d. distance_in d stops c.args.timeline.now) (sym c.in-ToStop.is) in
    subst (λ found. IfOk c.since_stop.result (λ n. found ≡ Some n)) there c.since_stop.ensures.ok

pub returns-in_ok-marks-in-ToStop-clause-err : goal.returns-in_ok-marks-in-ToStop-clause-err
returns-in_ok-marks-in-ToStop-clause-err g c =
    let t = c.timeline.inside in
    let stops = c.args.stops.now in
    let replay = option_copied c.as_ref.result in
    let marks = ap (seen word_value) c.deref.ensures.value ∙ c.in_ok-marks-in-ToStop.ensures in
    let there = ap (λ m. since_stop m replay t.past) marks
    ∙ ap (λ r. since_stop (marks_of t.machine stops) r t.past) c.as_ref.ensures.value
    ∙ ap (λ (time : TimelineState). since_stop (marks_of time.machine stops) time.replay time.past) c.timeline.view_is
    ∙ ap (λ d. distance_in d stops c.args.timeline.now) (sym c.in-ToStop.is) in
    subst (λ found. IfErr c.since_stop.result (λ fault. (fault ≡ B4) ⊎ ((fault ≡ B2) × (found ≡ None)))) there c.since_stop.ensures.err
