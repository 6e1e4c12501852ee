-- What a search finds, from any event on.
use Rattle.std.proofs.Common.{◌≡◌, ℕ, suc, ◌+◌, List, [], ◌∷◌, ◌++◌, length, Option, Some, None, ◌⊎◌, inl, inr, refl, ap, sym, subst, ◌∙◌}
use Rattle.std.proofs.Common.{arith}
use Rattle.origins.specs.declared.place.Place.{Place}
use Rattle.steps.specs.Event.{after}
use Rattle.steps.specs.State.{State}
use Rattle.steps.specs.declared.event.Event.{Event}
use Rattle.machine.specs.Run.{run_after}
use Rattle.origins.specs.Search.{IsLast, NoneDoes, done_at, last, last_after, newer}
use Rattle.origins.specs.declared.making.Making.{Making}
use Rattle.origins.specs.declared.search.Found.{Found}
use Rattle.origins.specs.declared.search.Sought.{Sought}

module _ (sought : Sought) (place : Place) where
  record IsFoundAfter (before : ℕ) (events : List Event) (s : State) (r : Option Found) : Type 0 where
    found : Found
    is : r ≡ Some found
    earlier : List Event
    event : Event
    later : List Event
    events_are : events ≡ earlier ++ event ∷ later
    count : before + length earlier ≡ found.before
    does : done_at sought place event (run_after earlier s) ≡ Some found.making
    none_later : NoneDoes sought place later (after event (run_after earlier s))

  abbrev Ends : ℕ → Option Found → List Event → State → Option Found → Type 0
  Ends before found events s r = ((r ≡ found) × NoneDoes sought place events s) ⊎ IsFoundAfter before events s r

  earlier-more : (before : ℕ) (e : Event) (es : List Event) (s : State) (r : Option Found) → IsFoundAfter (suc before) es (after e s) r
      → IsFoundAfter before (e ∷ es) s r
  earlier-more before e es s r it = record {
    found = it.found;
    is = it.is;
    earlier = e ∷ it.earlier;
    event = it.event;
    later = it.later;
    events_are = ap (λ rest. e ∷ rest) it.events_are;
    count = let count = it.count in omega arith;
    does = it.does;
    none_later = it.none_later;
  }

  ends-here : (before : ℕ) (found : Option Found) (e : Event) (es : List Event) (s : State) (r : Option Found) (d : Option Making)
      → done_at sought place e s ≡ d → r ≡ newer before d found → NoneDoes sought place es (after e s)
      → Ends before found (e ∷ es) s r
  ends-here before found e es s r (Some making) does same none =
      inr (record {
        found = record { before = before; making = making };
        is = same;
        earlier = [];
        event = e;
        later = es;
        events_are = refl;
        count = omega arith;
        does = does;
        none_later = none;
      })
  ends-here before found e es s r None does same none = inl (same, (does, none))

  ends-more : (before : ℕ) (found : Option Found) (e : Event) (es : List Event) (s : State) (r : Option Found)
      → Ends (suc before) (newer before (done_at sought place e s) found) es (after e s) r → Ends before found (e ∷ es) s r
  ends-more before found e es s r (inl kept) = ends-here before found e es s r (done_at sought place e s) refl kept.0 kept.1
  ends-more before found e es s r (inr it) = inr (earlier-more before e es s r it)

  ends : (before : ℕ) (found : Option Found) (events : List Event) (s : State)
      → Ends before found events s (last_after sought place before found events s)
  ends before found [] s = inl (refl, tt)
  ends before found (e ∷ es) s =
      ends-more before found e es s _ (ends (suc before) (newer before (done_at sought place e s) found) es (after e s))

  same-found : (r : Option Found) (f g : Found) → r ≡ Some f → r ≡ Some g → f ≡ g
  same-found r f g one other = let both : Some f ≡ Some g = sym one ∙ other in cc

  is-last : (events : List Event) (s : State) (r : Option Found) (found : Found) → r ≡ Some found → Ends 0 None events s r
      → IsLast sought place events s found
  is-last events s r found some (inl none) = let never : Some found ≡ None = sym some ∙ none.0 in cc
  is-last events s r found some (inr it) =
      subst (IsLast sought place events s) (same-found r it.found found it.is some) (record {
        earlier = it.earlier;
        event = it.event;
        later = it.later;
        events_are = it.events_are;
        count = let count = it.count in omega arith;
        does = it.does;
        none_later = it.none_later;
      })

  none-does : (events : List Event) (s : State) (r : Option Found) → r ≡ None → Ends 0 None events s r → NoneDoes sought place events s
  none-does events s r none (inl it) = it.1
  none-does events s r none (inr it) = let never : Some it.found ≡ None = sym it.is ∙ none in cc

  pub last-found : (events : List Event) (s : State) (found : Found) → last sought place events s ≡ Some found
      → IsLast sought place events s found
  unfolding last
  last-found events s found some = is-last events s _ found some (ends 0 None events s)

  pub last-none : (events : List Event) (s : State) → last sought place events s ≡ None → NoneDoes sought place events s
  unfolding last
  last-none events s none = none-does events s _ none (ends 0 None events s)
