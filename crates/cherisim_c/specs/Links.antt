-- How what a place holds came to be, as C gets it: links over a past, the newest first.
use Rattle.std.specs.Prelude.{◌≡◌, ℕ, zero, suc, Bool, true, false, if◌then◌else◌, List, [], ◌∷◌, map, take, Option, Some, None, option_map}
use Rattle.c_types.specs.Words.{capability_of}
use Rattle.cap_bounds.specs.CapValue.{CapValue}
use Rattle.hart.specs.Opening.{opening}
use Rattle.origins.specs.Making.{source}
use Rattle.origins.specs.Places.{held}
use Rattle.origins.specs.declared.place.Place.{Place}
use Rattle.origins.specs.declared.place.Place.TheVariants.{Register, Special, Granule}
use Rattle.origins.specs.declared.search.Found.{Found}
use Rattle.origins.specs.declared.search.Sought.TheVariants.{Written}
use Rattle.origin_texts.specs.Origin.{before, last_among}
use Rattle.origin_texts.specs.Lost.{lost_steps}
use Rattle.origin_texts.specs.declared.lost.LossStep.{LossStep}
use Rattle.past.specs.Given.{PastState, count_of, state_at}
use Rattle.steps.specs.Event.{after}
use Rattle.steps.specs.State.{State, pc_of}
use Rattle.steps.specs.declared.event.Event.TheVariants.{Step}
use Rattle.cherisim_c.specs.declared.types.Linked.{Linked}
use Rattle.cherisim_c.specs.declared.types.Noted.{Noted}
use Rattle.cherisim_c.specs.declared.types.PlaceAsked.{PlaceAsked}
use Rattle.cherisim_c.specs.Pasts.{IsPast, IsPlaceOf}

-- what a link for C says
pub record ShownLink : Type 0 where
  pub value : CapValue
  pub before : ℕ
  pub pc : ℕ
  pub place : PlaceAsked
  pub source : Option PlaceAsked
  pub written : Bool

abbrev pub shown_link : Linked → ShownLink
shown_link l = record {
  value = capability_of l.value;
  before = l.before;
  pc = l.pc;
  place = l.place;
  source = if l.has_source then Some l.source else None;
  written = l.written;
}

-- a place, as C names it
abbrev pub c_place : Place → PlaceAsked
c_place (Register n) = record { number = n; kind = 0 }
c_place (Special n) = record { number = n; kind = 1 }
c_place (Granule address) = record { number = address; kind = 2 }

-- the step from this state, and what the place that it wrote holds after it
abbrev pub step_link : LossStep → State → ShownLink
step_link step s = record {
  value = held step.place (after Step s);
  before = step.before;
  pc = pc_of s;
  place = c_place step.place;
  source = option_map c_place step.source;
  written = true;
}

abbrev pub written_link : Place → Found → State → ShownLink
written_link place found s = step_link (record { place = place; before = found.before; source = source found.making }) s

-- what the opening state holds
abbrev pub opening_link : Place → State → ShownLink
opening_link place s =
    record { value = held place s; before = 0; pc = 0; place = c_place place; source = None; written = false }

-- ---- a link leads on to its source; what nothing wrote is as the opening state has it

abbrev pub trail_on : (Place → ℕ → List ShownLink) → Option Place → ℕ → List ShownLink
trail_on follow (Some from) n = follow from n
trail_on follow None n = []

module _ (past : PastState) where
  abbrev pub trail_by : (Place → ℕ → List ShownLink) → Place → Option Found → List ShownLink
  trail_by follow place None = opening_link place (opening past.image) ∷ []
  trail_by follow place (Some found) =
      written_link place found (before past None found) ∷ trail_on follow (source found.making) found.before

  -- the newest links, so many at most, over the first n events
  abbrev pub trail : ℕ → Place → ℕ → List ShownLink
  trail zero place n = []
  trail (suc most) place n = trail_by (trail most) place (last_among past None Written n place)

-- so many at most of the links of a place of a past
pub record AreLinksOf (bytes : List ℕ) (noted : List Noted) (asked : PlaceAsked) (most : ℕ) (links : List ShownLink) : Type 0 where
  pub past : PastState
  pub is_past : IsPast bytes noted past
  pub place : Place
  pub is_place : IsPlaceOf asked past place
  pub are : links ≡ trail past most place (count_of past.given)

-- ---- where a tag went

abbrev pub loss_links : PastState → List LossStep → List ShownLink
loss_links past steps = map (λ step. step_link step (state_at step.before past None)) steps

-- so many at most of the steps at which the tag of a place of a past went, or that lead down to one
pub record AreLossesOf (bytes : List ℕ) (noted : List Noted) (asked : PlaceAsked) (most : ℕ) (links : List ShownLink) : Type 0 where
  pub past : PastState
  pub is_past : IsPast bytes noted past
  pub place : Place
  pub is_place : IsPlaceOf asked past place
  pub are : links ≡ loss_links past (take most (lost_steps past None place))
