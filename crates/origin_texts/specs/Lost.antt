-- Where the tag of what stands at a place went: the links of its chain, the newest first, down to the first whose source had its tag.
-- Where the chain ends in data that was stored into a granule, either the bits of a tagged capability were copied there as data, or the
-- tag that the granule had was overwritten.
use Rattle.std.specs.Prelude.{ℕ, ◌+◌, if◌then◌else◌, Bool, List, [], ◌∷◌, ◌++◌, map, Option, Some, None, option_map, codes}
use Rattle.cap_bounds.specs.CapValue.{is_tagged}
use Rattle.origins.specs.Making.{source}
use Rattle.origins.specs.Places.{held}
use Rattle.origins.specs.Search.{is_tagged_at}
use Rattle.origins.specs.declared.making.Making.{Making}
use Rattle.origins.specs.declared.making.Making.TheVariants.{Number}
use Rattle.origins.specs.declared.place.Place.{Place}
use Rattle.origins.specs.declared.place.Place.TheVariants.{Granule}
use Rattle.origins.specs.declared.search.Found.{Found}
use Rattle.origins.specs.declared.search.Sought.TheVariants.{Lost}
use Rattle.past.specs.Given.{PastState, count_of, state_at}
use Rattle.past.specs.Replay.{ReplayState}
use Rattle.symbols.specs.Symbols.{Symbol}
use Rattle.origin_texts.specs.Chain.{whole_chain}
use Rattle.origin_texts.specs.Copied.{copied, copy_text}
use Rattle.origin_texts.specs.Link.{place_text}
use Rattle.origin_texts.specs.Origin.{before, history, last_among, loss_text, told}
use Rattle.origin_texts.specs.Stretches.{stretch_texts, stretches}
use Rattle.origin_texts.specs.declared.copied.Copy.{Copy}
use Rattle.origin_texts.specs.declared.log.Link.{Link}
use Rattle.origin_texts.specs.declared.lost.Ending.{Ending}
use Rattle.origin_texts.specs.declared.lost.Ending.TheVariants.{Nowhere, AtTag, InCopy, InStore}
use Rattle.origin_texts.specs.declared.lost.LossStep.{LossStep}
use Rattle.origin_texts.specs.declared.told.Telling.TheVariants.{OfLosses}

-- ---- data that was stored

-- the granule that a link is of, if data was stored there
abbrev pub granule_of : Place → Making → Option ℕ
granule_of (Granule address) Number = Some address
granule_of _ _ = None

abbrev pub data_of : Link → Option ℕ
data_of link = granule_of link.place link.found.making

-- Links that end in data: those above, the granule, and how many events were before it was stored.
pub record DataEnd : Type 0 where
  pub above : List Link
  pub granule : ℕ
  pub store : ℕ

abbrev pub end_of : Link → Option ℕ → Option DataEnd
end_of link (Some granule) = Some (record { above = []; granule = granule; store = link.found.before })
end_of link None = None

abbrev pub below : Link → DataEnd → DataEnd
below link end = record end { above = link ∷ end.above }

abbrev pub data_end : List Link → Option DataEnd
data_end [] = None
data_end (l ∷ []) = end_of l (data_of l)
data_end (l ∷ m ∷ ls) = option_map (below l) (data_end (m ∷ ls))

-- Where a tag went: the links down to there, the newest first, and how they end.
pub record Loss : Type 0 where
  pub links : List Link
  pub ending : Ending

abbrev pub no_loss : Loss
no_loss = record { links = []; ending = Nowhere }

abbrev pub if_known : List Link → Ending → Loss
if_known links Nowhere = no_loss
if_known links ending = record { links = links; ending = ending }

-- by how the bits were copied there, or else by the last event at which the tag of the granule went, if it had one
abbrev pub copied_or : Ending → ℕ → Option Copy → Ending
copied_or other granule None = other
copied_or other granule (Some copy) = InCopy granule copy

abbrev pub overwritten_by : ℕ → Option Found → Ending
overwritten_by granule None = Nowhere
overwritten_by granule (Some found) = InStore granule found

module _ (past : PastState) (replay : Option ReplayState) where
  -- ---- the links

  -- whether the source of a link had its tag
  abbrev pub was_tagged : Link → Bool
  was_tagged link = is_tagged_at (source link.found.making) (before past replay link.found)

  -- links down to the first whose source had, with it; none where there is no such
  abbrev pub down_to_tag : List Link → Option (List Link)
  down_to_tag [] = None
  down_to_tag (l ∷ ls) = if was_tagged l then Some (l ∷ []) else option_map (λ rest. l ∷ rest) (down_to_tag ls)
      -- ---- where a tag went

  abbrev pub overwritten : ℕ → ℕ → Ending
  overwritten granule n = overwritten_by granule (last_among past replay Lost n (Granule granule))

  -- what is known of data that was stored into a granule
  abbrev pub data_ending : ℕ → ℕ → Ending
  data_ending granule store = copied_or (overwritten granule (store + 1)) granule (copied past replay granule store)

  abbrev pub by_data : Option DataEnd → Loss
  by_data None = no_loss
  by_data (Some e) = if_known e.above (data_ending e.granule e.store)

  abbrev pub loss_down : List Link → Option (List Link) → Loss
  loss_down links (Some down) = record { links = down; ending = AtTag }
  loss_down links None = by_data (data_end links)

  -- of what stands at a place after so many events: what has its tag lost none
  abbrev pub loss : Place → ℕ → Loss
  loss place n =
      if is_tagged (held place (state_at n past replay)) then no_loss
      else loss_down (whole_chain (history past replay).last_writer place n).links
      (down_to_tag (whole_chain (history past replay).last_writer place n).links)

-- ---- as lines

abbrev pub none_line : List Symbol → Place → List ℕ
none_line symbols place = codes "no tag was lost at " ++ place_text symbols place ++ codes "\n"

module _ (symbols : List Symbol) (past : PastState) (replay : Option ReplayState) where
  -- links with the conditions of their tags; many that are told alike as `origin` tells them
  abbrev pub loss_lines : List Link → List ℕ
  loss_lines links = stretch_texts (stretches [] (map (told symbols past replay OfLosses) links))

  abbrev pub text_by : Place → List Link → Ending → List ℕ
  text_by place links Nowhere = none_line symbols place
  text_by place links AtTag = loss_lines links
  text_by place links (InCopy granule copy) = loss_lines links ++ copy_text symbols past replay granule copy
  text_by place links (InStore granule found) =
      loss_lines links ++ loss_text symbols (Granule granule) found (before past replay found)

  abbrev pub text_of_loss : Place → Loss → List ℕ
  text_of_loss place l = text_by place l.links l.ending

  unfoldable pub lost_text : Place → List ℕ
  lost_text place = text_of_loss place (loss past replay place (count_of past.given))

-- ---- as steps: the place that each wrote, how many events were before it, and the place that its value came from

abbrev pub step_of : Link → LossStep
step_of l = record { place = l.place; before = l.found.before; source = source l.found.making }

-- a double word's store stands for the granule that it was loaded from
abbrev pub copy_step : ℕ → ℕ → ℕ → LossStep
copy_step granule from before = record { place = Granule granule; before = before; source = Some (Granule from) }

abbrev pub ending_steps : Ending → List LossStep
ending_steps (InCopy granule copy) =
    copy_step granule copy.lower.from copy.lower.stored ∷ copy_step granule copy.lower.from copy.upper.stored ∷ []
ending_steps (InStore granule found) = step_of (record { place = Granule granule; found = found }) ∷ []
ending_steps _ = []

unfoldable pub lost_steps : PastState → Option ReplayState → Place → List LossStep
lost_steps past replay place =
    map step_of (loss past replay place (count_of past.given)).links
    ++ ending_steps (loss past replay place (count_of past.given)).ending
