use Rattle.std.proofs.Common.{◌≡◌, ◌-◌, ◌&&◌, not, sym, ap, ap₂, ◌∙◌, subst, arith}
use Rattle.std.specs.Prelude.{Some, is_some}
use Rattle.past.specs.Given.{first_of, position_at, state_at}
use Rattle.past.specs.Position.{beginning}
use Rattle.schedules.specs.Schedule.{is_halted}
use Rattle.past.specs.Anchor.{IsKeptOn}
use Rattle.debugger.specs.Keeping.{IsAnchored, timeline}
use Rattle.debugger.specs.Reply.{left_of}
use Rattle.debugger.specs.SessionState.{HasItsPast, TimelineState}
use Rattle.past.proofs.Beginnings.{none_stands, same_beginning, stands}
use Rattle.debugger.proofs.Backs.{anchored_back, none_there, stands_back, taken}
use Rattle.debugger.proofs.recalling.take_back.Goals as goal
use Rattle.debugger.proofs.recalling.take_back.Goals.{in-Some, in_default-replay, then-is_owed, else-is_owed}

pub returns-clause-state : goal.returns-clause-state
returns-clause-state c =
    let past = c.args.past.now in
    let n = left_of c.args.events past in
    let left : c.count.result - c.args.events ≡ n = ap (λ k. k - c.args.events) c.count.ensures.value in
    let there : c.in-Ok.then ≡ state_at n past c.args.replay.now =
    c.in-Ok.ensures.machine ∙ ap₂ (λ k r. state_at k past r) left c.as_ref.ensures.value in
    let steps : c.in-Ok.player ≡ position_at n past c.args.replay.now =
    c.in-Ok.ensures.position ∙ ap₂ (λ k r. position_at k past r) left c.as_ref.ensures.value in
    let same = ap (λ p. beginning p.replay) steps ∙ same_beginning n past c.args.replay.now in
    let replay : c.match-replay.replay ≡ c.in-Ok.player.replay =
    elim c.match-replay.branch [
      | in-Some w ↦
          w.replay-is ∙ ap Some w.stand_at.ensures
          ∙ stands c.in-Ok.player.replay w.in-Some.replay c.done-done.result c.brought-brought.result (same ∙ ap beginning w.in-Some.is)
          c.done-done.ensures c.brought-brought.ensures
      | in_default-replay w ↦
          w.replay-is ∙ w.in_default-replay.is ∙ none_stands c.in-Ok.player.replay (same ∙ ap beginning w.in_default-replay.is)
    ] in
    let owed : c.if-is_owed.owed ≡ (c.in-Ok.player.owed && not (is_halted c.in-Ok.then)) =
    elim c.if-is_owed.branch [
      | then-is_owed w ↦
          w.owed-is
          ∙ none_there c.in-Ok.then.devices.halted c.in-Ok.player.owed w.is_none.result (sym c.owed-is_owed.ensures ∙ w.if-is_owed.true)
          (ap is_some (sym w.halted.ensures.value) ∙ w.is_none.ensures)
      | else-is_owed w ↦
          w.owed-is ∙ w.if-is_owed.false
          ∙ ap (λ b. b && not (is_halted c.in-Ok.then)) (sym (sym c.owed-is_owed.ensures ∙ w.if-is_owed.false))
    ] in
    taken n past (timeline c.args.machine.now c.args.replay.now c.args.owed.now (Some past)) c.in-Ok.then c.in-Ok.player
    c.match-replay.replay c.if-is_owed.owed c.keep.new.self there steps replay owed
    (c.keep.ensures ∙ ap (λ k. record past { given = first_of k past.given }) left)

pub returns-clause-stands : goal.returns-clause-stands
returns-clause-stands c =
    let past = c.args.past.now in
    let back = timeline c.args.machine.now c.args.replay.now c.args.owed.now (Some past) in
    subst HasItsPast (sym (returns-clause-state c)) (stands_back (left_of c.args.events past) past back)

pub returns-clause-anchor : goal.returns-clause-anchor
returns-clause-anchor c =
    let past = c.args.past.now in
    let replay = c.args.replay.now in
    let anchor = c.machine_by.new.anchor in
    let n = left_of c.args.events past in
    let left : c.count.result - c.args.events ≡ n = ap (λ k. k - c.args.events) c.count.ensures.value in
    let kept = subst (λ k. IsKeptOn k anchor past replay) left
    (subst (λ r. IsKeptOn (c.count.result - c.args.events) anchor past r) c.as_ref.ensures.value c.machine_by.ensures.kept) in
    subst (λ (time : TimelineState). IsAnchored anchor time.past time.replay) (sym (returns-clause-state c))
    (anchored_back n anchor past replay (omega arith) kept)
