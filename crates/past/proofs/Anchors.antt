-- An anchor on the way of a session: where it begins, and that it stays there.
use Rattle.std.proofs.Common.{◌≡◌, ℕ, zero, suc, ◌+◌, ◌-◌, ◌<◌, ◌≤◌, ◌^◌, Bool, List, [], ◌∷◌, ◌++◌, take, refl, sym}
use Rattle.std.proofs.Common.{inl, inr, ap, ap₂, ◌∙◌, subst, arith}
use Rattle.std.specs.Prelude.{◌⊎◌, Option, None, Some, IfSome}
use Rattle.std.proofs.lemmas.List.{take-append-le}
use Rattle.hart.specs.Opening.{opening}
use Rattle.image.specs.Image.{Image}
use Rattle.steps.specs.State.{State}
use Rattle.steps.specs.declared.event.Event.{Event}
use Rattle.machine.specs.Run.{run_after}
use Rattle.past.specs.declared.given.Given.{Given}
use Rattle.past.specs.Anchor.{AnchorState, IsKeptOn, LiesOn, opening_anchor, stood}
use Rattle.past.specs.Giving.{HasSameSize, after_first}
use Rattle.past.specs.Given.{PastState, count_of, events_of, first_of, past_events, position_at, position_of, state_at}
use Rattle.past.specs.Position.{MayGive, Position, beginning}
use Rattle.past.specs.Replay.{ReplayState}
use Rattle.past.proofs.Beginnings.{same_beginning, stood_at, stood_same}
use Rattle.past.proofs.InOrder.{count_of-lists, events_of-append, first_events, length-events_of, none_position}
use Rattle.past.proofs.OneByOne.{may_begin}
use Rattle.past.proofs.Rests.{first_first, first_more, may_rest, rest_position, state_rest}

pub lies_before : (n m : ℕ) (a : AnchorState) (past : PastState) (replay : Option ReplayState) → a.events ≤ m → LiesOn n a past replay
    → LiesOn m a past replay
lies_before n m a past replay few lies = record {
  few = few;
  machine = lies.machine;
  steps = lies.steps;
  size = lies.size;
}

pub kept_before : (n m : ℕ) (a : Option AnchorState) (past : PastState) (replay : Option ReplayState) → n ≤ m → IsKeptOn n a past replay
    → IsKeptOn m a past replay
kept_before n m None past replay more kept = tt
kept_before n m (Some a) past replay more kept = lies_before n m a past replay (omega (arith, more, kept.few)) kept

-- ---- before the first event

pub lies_first : (n : ℕ) (past : PastState) (replay : Option ReplayState) → LiesOn n (opening_anchor past.image) past replay
lies_first n past replay = record {
  few = omega arith;
  machine = refl;
  steps = stood_first replay ∙ sym (none_position past.given (beginning replay));
  size = refl;
}
  where
    stood_first : (replay : Option ReplayState) → stood (opening_anchor past.image) replay ≡ beginning replay
    stood_first None = refl
    stood_first (Some r) = refl

-- ---- while those after it are forgotten, and others come

take-first : (a n : ℕ) (xs : List Event) → a ≤ n → take a (take n xs) ≡ take a xs
take-first zero n xs h = refl
take-first (suc a) zero xs h = absurd (omega arith)
take-first (suc a) (suc n) [] h = refl
take-first (suc a) (suc n) (x ∷ xs) h = ap (λ l. x ∷ l) (take-first a n xs (omega arith))

module _ (a : AnchorState) (past : PastState) (replay other : Option ReplayState) (same : beginning other ≡ beginning replay) where
  pub lies_cut : (n : ℕ) → LiesOn n a past replay → LiesOn n a (record past { given = first_of n past.given }) other
  lies_cut n lies = record {
    few = lies.few;
    machine = lies.machine
        ∙ ap (λ es. run_after es (opening past.image))
        (sym (ap (take a.events) (ap (events_of (first_of n past.given)) same ∙ first_events n past.given (beginning replay))
        ∙ take-first a.events n (past_events past replay) lies.few));
    steps = stood_same a replay other same ∙ lies.steps
        ∙ sym (ap₂ position_of (first_first a.events n past.given lies.few) same);
    size = lies.size;
  }

  pub lies_more : (more : List Given) → LiesOn (count_of past.given) a past replay
      → LiesOn (count_of (past.given ++ more)) a (record past { given = past.given ++ more }) other
  lies_more more lies =
      let few = lies.few in
      record {
        few = omega (arith, few, count_of-lists past.given more);
        machine = lies.machine
            ∙ ap (λ es. run_after es (opening past.image))
            (sym (ap (λ p. take a.events (events_of (past.given ++ more) p)) same
            ∙ ap (take a.events) (events_of-append past.given more (beginning replay))
            ∙ take-append-le a.events (past_events past replay) (events_of more (position_of past.given (beginning replay)))
            (omega (arith, few, length-events_of past.given (beginning replay)))));
        steps = stood_same a replay other same ∙ lies.steps
            ∙ sym (ap (position_of (first_of a.events (past.given ++ more))) same
            ∙ first_more a.events past.given more (beginning replay) few);
        size = lies.size;
      }

pub kept_cut : (n : ℕ) (a : Option AnchorState) (past : PastState) (replay other : Option ReplayState) → beginning other ≡ beginning replay
    → IsKeptOn n a past replay → IsKeptOn n a (record past { given = first_of n past.given }) other
kept_cut n None past replay other same kept = tt
kept_cut n (Some a) past replay other same kept = lies_cut a past replay other same n kept

pub kept_more : (a : Option AnchorState) (past : PastState) (replay other : Option ReplayState) (more : List Given)
    → beginning other ≡ beginning replay → IsKeptOn (count_of past.given) a past replay
    → IsKeptOn (count_of (past.given ++ more)) a (record past { given = past.given ++ more }) other
kept_more None past replay other more same kept = tt
kept_more (Some a) past replay other more same kept = lies_more a past replay other same more kept

-- ---- one that lies before, or the first

pub nearest_lies : (n m : ℕ) (old new : Option AnchorState) (from : AnchorState) (image : Image) (past : PastState)
    (replay : Option ReplayState) → image ≡ past.image → from.events ≤ n → IsKeptOn m old past replay
    → ((new ≡ old) × (old ≡ Some from)) ⊎ ((new ≡ None) × (from ≡ opening_anchor image))
    → LiesOn n from past replay × IsKeptOn n new past replay
nearest_lies n m old new from image past replay same few kept (inl (is, some)) =
    let lies : LiesOn n from past replay = lies_before m n from past replay few (subst (λ a. IsKeptOn m a past replay) some kept) in
    (lies, subst (λ a. IsKeptOn n a past replay) (sym (is ∙ some)) lies)
nearest_lies n m old new from image past replay same few kept (inr (none, first)) = (
  subst (λ a. LiesOn n a past replay) (sym (first ∙ ap opening_anchor same)) (lies_first n past replay),
  subst (λ a. IsKeptOn n a past replay) (sym none) tt,
)

-- ---- led on

module _ (n : ℕ) (a : AnchorState) (past : PastState) (replay : Option ReplayState) (lies : LiesOn n a past replay) where
  sum : a.events + (n - a.events) ≡ n
  sum = omega (arith, lies.few)

  pub led_may : n < 2 ^ 64 → MayGive (n - a.events) (stood a replay)
  led_may fits =
      subst (MayGive (n - a.events)) (sym lies.steps)
      (may_rest (n - a.events) a.events past.given (beginning replay)
      (subst (λ k. MayGive k (beginning replay)) (sym sum) (may_begin n replay fits)))

  led_state : run_after (take (n - a.events) (events_of (after_first a.events past.given) (stood a replay))) a.machine
      ≡ state_at n past replay
  led_state =
      ap₂ (λ p s. run_after (take (n - a.events) (events_of (after_first a.events past.given) p)) s) lies.steps lies.machine
      ∙ state_rest (n - a.events) a.events past.given (beginning replay) (opening past.image)
      ∙ ap (λ k. state_at k past replay) sum

  led_position : position_of (first_of (n - a.events) (after_first a.events past.given)) (stood a replay) ≡ position_at n past replay
  led_position =
      ap (position_of (first_of (n - a.events) (after_first a.events past.given))) lies.steps
      ∙ rest_position (n - a.events) a.events past.given (beginning replay)
      ∙ ap (λ k. position_at k past replay) sum

  pub led : (gs : List Given) (p q : Position) (s : State) (done : ℕ) (brought owed : Bool) → gs ≡ past.given → p ≡ stood a replay
      → s ≡ run_after (take (n - a.events) (events_of (after_first a.events gs) p)) a.machine
      → q ≡ position_of (first_of (n - a.events) (after_first a.events gs)) p
      → HasSameSize a.machine s → IfSome q.replay (λ r. done ≡ r.done) → IfSome q.replay (λ r. brought ≡ r.brought) → owed ≡ q.owed
      → LiesOn n (record { events = n; machine = s; done = done; brought = brought; owed = owed }) past replay
  led gs p q s done brought owed is_given is_place is_state is_position is_size is_done is_brought is_owed =
      let there : q ≡ position_at n past replay =
      is_position ∙ ap₂ (λ l r. position_of (first_of (n - a.events) (after_first a.events l)) r) is_given is_place ∙ led_position in
      record {
        few = omega arith;
        machine = is_state
            ∙ ap₂ (λ l r. run_after (take (n - a.events) (events_of (after_first a.events l) r)) a.machine) is_given is_place ∙ led_state;
        steps = stood_at replay q done brought owed
            (ap (λ r. beginning r.replay) there ∙ same_beginning n past replay)
            is_done is_brought is_owed ∙ there;
        size = is_size ∙ lies.size;
      }
