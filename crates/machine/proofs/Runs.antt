-- A run goes on by one event.
use Rattle.std.proofs.Common.{◌≡◌, ℕ, ◌+◌, ◌<◌, List, ◌∷◌, length, get_or, drop, add-one}
use Rattle.std.proofs.Common.{drop-cons}
use Rattle.steps.specs.declared.event.Event.{Event}

module _ (events : List Event) (i : ℕ) (d : Event) (below : i < length events) where
  pub rest : drop i events ≡ get_or events i d ∷ drop (i + 1) events
  rest = rw add-one (drop-cons events i d below)
