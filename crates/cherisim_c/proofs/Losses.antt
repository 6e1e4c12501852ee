-- Steps of a past, one after the other.
use Rattle.std.proofs.Common.{◌≡◌, ℕ, zero, suc, ◌<◌, ◌+◌, List, [], ◌∷◌, ◌++◌, length, take, get_or, sym, ap, ap₂, ◌∙◌, arith}
use Rattle.std.proofs.lemmas.List.{map-append, take_more}
use Rattle.std.specs.Prelude.{map, None}
use Rattle.hart.specs.Opening.{opening}
use Rattle.origins.specs.Places.{IsThere}
use Rattle.origins.specs.declared.place.Place.TheVariants.{Register}
use Rattle.origin_texts.specs.Down.{AreSteps}
use Rattle.origin_texts.specs.declared.lost.LossStep.{LossStep}
use Rattle.past.specs.Given.{PastState, state_at}
use Rattle.cherisim_c.specs.Links.{loss_links, shown_link, step_link}
use Rattle.cherisim_c.specs.declared.types.Linked.{Linked}

-- what is read past the end
abbrev pub no_step : LossStep
no_step = record { place = Register 0; before = 0; source = None }

pub step_there : (past : PastState) (i : ℕ) (steps : List LossStep) → i < length steps → AreSteps past steps
    → IsThere (get_or steps i no_step).place (opening past.image)
step_there past i [] few are = absurd (omega (arith, few))
step_there past zero (s ∷ ss) few are = are.0
step_there past (suc i) (s ∷ ss) few are = step_there past i ss (omega (arith, few)) are.2

pub first_steps : (past : PastState) (n : ℕ) (steps : List LossStep) → AreSteps past steps → AreSteps past (take n steps)
first_steps past zero steps are = tt
first_steps past (suc n) [] are = tt
first_steps past (suc n) (s ∷ ss) are = (are.0, are.1, first_steps past n ss are.2)

-- one link more
pub one_more : (past : PastState) (steps : List LossStep) (i : ℕ) (links all : List Linked) (link : Linked) → i < length steps
    → all ≡ links ++ link ∷ [] → map shown_link links ≡ loss_links past (take i steps)
    → shown_link link ≡ step_link (get_or steps i no_step) (state_at (get_or steps i no_step).before past None)
    → map shown_link all ≡ loss_links past (take (i + 1) steps)
one_more past steps i links all link few are before is =
    ap (map shown_link) are ∙ map-append shown_link links (link ∷ []) ∙ ap₂ (λ xs x. xs ++ x ∷ []) before is
    ∙ sym (map-append (λ s. step_link s (state_at s.before past None)) (take i steps) (get_or steps i no_step ∷ []))
    ∙ ap (loss_links past) (sym (take_more steps i no_step few))
