use Rattle.std.proofs.Common.{◌≤◌, ap, ap₂, sym, subst, ◌∙◌}
use Rattle.std.specs.Prelude.{option_map}
use Rattle.past.specs.Given.{count_of_one}
use Rattle.debugger.specs.Keeping.{HasBegun, IsAnchored, kept_last}
use Rattle.debugger.specs.Reply.{after_events, given, given_at}
use Rattle.debugger.specs.SessionState.{HasItsPast, TimelineState}
use Rattle.debugger.specs.Marked.{seen}
use Rattle.debugger.proofs.Begun.{all_same, given_few, has_begun, kept_begun, stays_anchored, stays_there}
use Rattle.debugger.proofs.run.give_all.Goals as goal

pub keep-requires-clause-begun : goal.keep-requires-clause-begun
keep-requires-clause-begun g c =
    subst HasBegun (sym c.in_ok-begin.ensures.past) (has_begun c.timeline.inside.past c.in_ok-begin.ensures.few)

pub keep-requires-clause-few : goal.keep-requires-clause-few
keep-requires-clause-few g c =
    subst (λ given. count_of_one given ≤ 4000000000001) (sym c.given_of.ensures)
    (given_few c.args.events c.give-count.result c.give-count.ensures.few)

pub invariant_of-timeline-2 : goal.invariant_of-timeline-2
invariant_of-timeline-2 g c =
    let marks = seen g.C.CapRep.value c.args.marks.now in
    let t = c.timeline.inside in
    let new = c.give-count.new in
    let ensured = c.give-count.ensures in
    let es = given c.args.events t.replay t.owed marks t.machine in
    let kept = c.keep.ensures
    ∙ ap₂ (λ g p. option_map (kept_last g) p) c.given_of.ensures c.in_ok-begin.ensures.past
    ∙ kept_begun t.past c.args.events es c.give-count.result ensured.count in
    let same = all_same t.past t.replay t.owed t.machine c.args.events es c.keep.new.past new.replay new.owed new.machine ensured.state
    ensured.replay ensured.owed kept in
    record {
      past = subst HasItsPast (sym same) (stays_there t.past t.replay t.owed t.machine c.args.events marks c.timeline.invariant.past);
      anchored = subst (λ (time : TimelineState). IsAnchored t.anchor time.past time.replay) (sym same)
          (stays_anchored t.anchor t.past t.replay c.args.events es c.timeline.invariant.anchored);
    }

pub returns-clause-state : goal.returns-clause-state
returns-clause-state g c =
    let marks = seen g.C.CapRep.value c.args.marks.now in
    let t = c.timeline.inside in
    let new = c.give-count.new in
    let ensured = c.give-count.ensures in
    let es = given c.args.events t.replay t.owed marks t.machine in
    let kept = c.keep.ensures
    ∙ ap₂ (λ g p. option_map (kept_last g) p) c.given_of.ensures c.in_ok-begin.ensures.past
    ∙ kept_begun t.past c.args.events es c.give-count.result ensured.count in
    all_same t.past t.replay t.owed t.machine c.args.events es c.keep.new.past new.replay new.owed new.machine ensured.state
    ensured.replay ensured.owed kept
    ∙ ap (λ (time : TimelineState). after_events c.args.events (given_at c.args.events marks time) time) c.timeline.view_is
