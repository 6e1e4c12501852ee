-- Steps among other events.
use Rattle.std.specs.Prelude.{◌≡◌, ℕ, zero, suc, List, [], ◌∷◌}
use Rattle.steps.specs.declared.event.Event.{Event}
use Rattle.steps.specs.declared.event.Event.TheVariants.{Step}

-- the first n events are steps
abbrev pub BeginWithSteps : ℕ → List Event → Type 0
BeginWithSteps zero events = Unit {0}
BeginWithSteps (suc n) [] = ⊥
BeginWithSteps (suc n) (e ∷ es) = (e ≡ Step) × BeginWithSteps n es
