-- A search that meets events.
use Rattle.std.proofs.Common.{◌≡◌, suc, List, ◌∷◌, refl}
use Rattle.steps.specs.declared.event.Event.{Event}
use Rattle.steps.specs.State.{State}
use Rattle.steps.specs.Event.{after}
use Rattle.origins.specs.Search.{done_at, newer}
use Rattle.origins.specs.declared.search.Search.{Search}
use Rattle.past.specs.Seeking.{found_by}

-- one event more
pub found_on : (old new : Search) (e : Event) (es : List Event) (s t : State) → t ≡ after e s → new.before ≡ suc old.before
    → new.found ≡ newer old.before (done_at old.sought old.place e s) old.found → new.sought ≡ old.sought → new.place ≡ old.place
    → found_by new es t ≡ found_by old (e ∷ es) s
found_on old new e es s t state before found sought place = rw (state, before, found, sought, place) refl
