-- A session that was taken back stands where the events that are left lead.
use Rattle.std.proofs.Common.{◌≡◌, ℕ, ◌≤◌, Bool, true, false, not, ◌&&◌, refl, sym, ap, ◌∙◌, arith}
use Rattle.std.specs.Prelude.{Option, Some, is_some}
use Rattle.hart.specs.Opening.{opening}
use Rattle.steps.specs.State.{State}
use Rattle.machine.specs.Run.{run_after}
use Rattle.past.proofs.Anchors.{kept_before, kept_cut}
use Rattle.past.proofs.InOrder.{first_count, first_events}
use Rattle.past.specs.Anchor.{AnchorState, IsKeptOn}
use Rattle.past.proofs.Beginnings.{same_beginning}
use Rattle.past.specs.Given.{PastState, count_of, events_of, first_of, position_at, position_of, state_at}
use Rattle.past.specs.Position.{Position, beginning}
use Rattle.past.specs.Replay.{ReplayState}
use Rattle.schedules.specs.Schedule.{is_halted}
use Rattle.debugger.specs.Keeping.{IsAnchored, timeline}
use Rattle.debugger.specs.Reply.{taken_back_to}
use Rattle.debugger.specs.SessionState.{HasItsPast, TimelineState}

-- ---- a tick that is to come yet

pub none_there : (halted : Option ℕ) (owed none : Bool) → owed ≡ true → is_some halted ≡ not none → none ≡ (owed && not (is_some halted))
none_there halted owed none due test = rw (due, test) (go none)
  where
    go : (b : Bool) → b ≡ (true && not (not b))
    go true = refl
    go false = refl

-- ---- all

pub taken : (n : ℕ) (past : PastState) (t : TimelineState) (s : State) (p : Position) (r : Option ReplayState) (o : Bool) (q : PastState)
    → s ≡ state_at n past t.replay → p ≡ position_at n past t.replay → r ≡ p.replay → o ≡ (p.owed && not (is_halted s))
    → q ≡ record past { given = first_of n past.given } → timeline s r o (Some q) ≡ taken_back_to n past t
taken n past t s p r o q is_state is_position is_replay is_owed is_past =
    rw (is_past, is_owed, is_replay, is_state, is_position) refl

pub stands_back : (n : ℕ) (past : PastState) (t : TimelineState) → HasItsPast (taken_back_to n past t)
stands_back n past t =
    let same = same_beginning n past t.replay in
    let left = first_of n past.given in
    record {
      machine = ap (λ es. run_after es (opening past.image)) (sym (first_events n past.given (beginning t.replay)))
          ∙ ap (λ p. run_after (events_of left p) (opening past.image)) (sym same);
      steps = ap (λ p. (position_of left p).replay) same;
      tick = ap (λ p. (position_of left p).owed && not (is_halted (state_at n past t.replay))) (sym same);
    }

-- the events after the anchor were given again
pub anchored_back : (n : ℕ) (anchor : Option AnchorState) (past : PastState) (replay : Option ReplayState) → n ≤ count_of past.given
    → IsKeptOn n anchor past replay
    → IsAnchored anchor (Some (record past { given = first_of n past.given })) (position_at n past replay).replay
anchored_back n anchor past replay few kept =
    let left = record past { given = first_of n past.given } in
    let then = (position_at n past replay).replay in
    kept_before n (count_of left.given) anchor left then (omega (arith, few, first_count n past.given))
    (kept_cut n anchor past replay then (same_beginning n past replay) kept)
