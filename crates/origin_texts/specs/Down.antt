-- How far a chain is gone down.
use Rattle.std.specs.Prelude.{◌≡◌, ℕ, ◌<◌, ◌≤◌, Bool, true, false, List, [], ◌∷◌, Option, Some, None, ⊤}
use Rattle.hart.specs.Opening.{opening}
use Rattle.origins.specs.Places.{IsThere}
use Rattle.origins.specs.declared.place.Place.{Place}
use Rattle.origins.specs.declared.place.Place.TheVariants.{Granule}
use Rattle.past.specs.Given.{PastState, count_of}
use Rattle.past.specs.Replay.{ReplayState}
use Rattle.origins.specs.declared.search.Found.{Found}
use Rattle.origins.specs.declared.search.Sought.TheVariants.{Lost}
use Rattle.origin_texts.specs.Chain.{whole_chain}
use Rattle.origin_texts.specs.Copies.{AreEarly}
use Rattle.origin_texts.specs.Log.{AreLinks}
use Rattle.origin_texts.specs.Lost as spec
use Rattle.origin_texts.specs.Lost.{down_to_tag}
use Rattle.origin_texts.specs.Origin.{history, last_among}
use Rattle.origin_texts.specs.declared.copied.Copy.{Copy}
use Rattle.origin_texts.specs.declared.log.Link.{Link}
use Rattle.origin_texts.specs.declared.lost.DataEnd.{DataEnd}
use Rattle.origin_texts.specs.declared.lost.Ending.{Ending}
use Rattle.origin_texts.specs.declared.lost.Ending.TheVariants.{InCopy, InStore}
use Rattle.origin_texts.specs.declared.lost.Loss.{Loss}
use Rattle.origin_texts.specs.declared.lost.LossStep.{LossStep}

-- links down to the first whose source had its tag, if there is such
abbrev pub found_down : Bool → List Link → Option (List Link)
found_down true links = Some links
found_down false links = None

pub record IsDown (past : PastState) (replay : Option ReplayState) (place : Place) (links : List Link) (is_lost : Bool) : Type 0 where
  pub are : AreLinks (history past replay) (count_of past.given) links
  pub down : down_to_tag past replay (whole_chain (history past replay).last_writer place (count_of past.given)).links
      ≡ found_down is_lost links
  pub all : is_lost ≡ false → (whole_chain (history past replay).last_writer place (count_of past.given)).links ≡ links

-- Data at the end of links: there is its granule, and it was stored at an event of the past.
pub record IsEnd (past : PastState) (replay : Option ReplayState) (events : ℕ) (end : DataEnd) : Type 0 where
  pub above : AreLinks (history past replay) events end.above.items
  pub there : IsThere (Granule end.granule) (opening past.image)
  pub store : end.store < count_of past.given

-- its double words were stored and loaded at events of the past
abbrev pub CopyIsIn : PastState → Copy → Type 0
CopyIsIn past copy = (n : ℕ) × (n < count_of past.given) × AreEarly n copy

-- the event is the last of some at which the granule's tag went
abbrev pub LostIn : PastState → Option ReplayState → ℕ → Found → Type 0
LostIn past replay granule found = (n : ℕ) × (n ≤ count_of past.given) × (last_among past replay Lost n (Granule granule) ≡ Some found)

abbrev pub as_end : DataEnd → spec.DataEnd
as_end end = record { above = end.above.items; granule = end.granule; store = end.store }

abbrev pub as_loss : Loss → spec.Loss
as_loss l = record { links = l.links.items; ending = l.ending }

-- There is the granule, and the events are of the past.
abbrev pub IsEnding : PastState → Option ReplayState → Ending → Type 0
IsEnding past replay (InCopy granule copy) = IsThere (Granule granule) (opening past.image) × CopyIsIn past copy
IsEnding past replay (InStore granule found) = IsThere (Granule granule) (opening past.image) × LostIn past replay granule found
IsEnding past replay other = ⊤

pub record IsLoss (past : PastState) (replay : Option ReplayState) (loss : Loss) : Type 0 where
  pub are : AreLinks (history past replay) (count_of past.given) loss.links.items
  pub ending : IsEnding past replay loss.ending

-- steps of the past, of places that are there
abbrev pub AreSteps : PastState → List LossStep → Type 0
AreSteps past [] = ⊤
AreSteps past (s ∷ ss) = IsThere s.place (opening past.image) × (s.before < count_of past.given) × AreSteps past ss
