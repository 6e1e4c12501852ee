-- Where a value came from: links over a session's past, the newest first.
use Rattle.std.specs.Prelude.{ℕ, List, [], ◌++◌, map, take, Option, Some, None}
use Rattle.origins.specs.declared.place.Place.{Place}
use Rattle.hart.specs.Opening.{opening}
use Rattle.steps.specs.State.{State}
use Rattle.origins.specs.Tags.{tag_asked}
use Rattle.origins.specs.declared.search.Found.{Found}
use Rattle.origins.specs.Search.{last}
use Rattle.origins.specs.declared.search.Sought.{Sought}
use Rattle.origins.specs.declared.search.Sought.TheVariants.{Written}
use Rattle.past.specs.Given.{PastState, count_of, past_events, state_at}
use Rattle.past.specs.Replay.{ReplayState}
use Rattle.symbols.specs.Symbols.{Symbol}
use Rattle.origin_texts.specs.Chain.{Chain, History, whole_chain}
use Rattle.origin_texts.specs.Conditions.{condition_lines}
use Rattle.origin_texts.specs.Link.{told_of, link_text, opening_text}
use Rattle.origin_texts.specs.Stretches.{Told, stretch_texts, stretches}
use Rattle.origin_texts.specs.declared.log.Link.{Link}
use Rattle.origin_texts.specs.declared.told.Telling.{Telling}
use Rattle.origin_texts.specs.declared.told.Telling.TheVariants.{OfLinks, OfLosses}

-- what is told of an event at which a tag went, which is the next step of this state
abbrev pub loss_text : List Symbol → Place → Found → State → List ℕ
loss_text symbols place found s = link_text symbols place found s ++ condition_lines symbols s (tag_asked found.making s)

abbrev pub loss_of : List Symbol → Place → Found → State → Told
loss_of symbols place found s = record (told_of symbols place found s) { line = loss_text symbols place found s }

-- a link alone, or with the conditions of the tag
abbrev pub told_at : Telling → List Symbol → Place → Found → State → Told
told_at OfLinks symbols place found s = told_of symbols place found s
told_at OfLosses symbols place found s = loss_of symbols place found s

module _ (past : PastState) (replay : Option ReplayState) where
  -- the last of the first n events that does what is sought
  abbrev pub last_among : Sought → ℕ → Place → Option Found
  last_among sought n place = last sought place (take n (past_events past replay)) (opening past.image)

  -- the state before an event that was found
  abbrev pub before : Found → State
  before found = state_at found.before past replay

  abbrev pub history : History
  history = record { last_writer = last_among Written; opening = opening past.image }

-- what a chain leads down to in the opening state
abbrev pub opening_line : List Symbol → PastState → Option Place → List ℕ
opening_line symbols past (Some place) = opening_text symbols place (opening past.image)
opening_line symbols past None = []

module _ (symbols : List Symbol) (past : PastState) (replay : Option ReplayState) where
  -- ---- a derivation: a value's source, and the source's source, down to the opening state or to a number

  abbrev pub told : Telling → Link → Told
  told telling link = told_at telling symbols link.place link.found (before past replay link.found)

  -- a chain, after links of which the first stretch is told with it
  abbrev pub chain_text : List Told → Chain → List ℕ
  chain_text first chain = stretch_texts (stretches first (map (told OfLinks) chain.links)) ++ opening_line symbols past chain.opening

  -- how what a place holds came to be
  unfoldable pub origin_text : Place → List ℕ
  origin_text place = chain_text [] (whole_chain (history past replay).last_writer place (count_of past.given))
