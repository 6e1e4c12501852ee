-- What a log says of a place: the last of the events in it that wrote the place.
use Rattle.std.specs.Prelude.{◌≡◌, ℕ, suc, ◌==◌, ◌<◌, ◌≤◌, Bool, false, ◌&&◌}
use Rattle.std.specs.Prelude.{nat_lt, if◌then◌else◌, List, [], ◌∷◌, ◌++◌, Option, Some, None, IfSome}
use Rattle.origins.specs.Making.{source}
use Rattle.origins.specs.Places.{IsThere}
use Rattle.origins.specs.Search.{newer}
use Rattle.origin_texts.specs.Chain.{Chain, History, no_links, whole_chain}
use Rattle.origins.specs.declared.place.Place.{Place}
use Rattle.origins.specs.declared.place.Place.TheVariants.{Register, Special, Granule}
use Rattle.origins.specs.declared.search.Found.{Found}
use Rattle.origin_texts.specs.declared.log.Link.{Link}
use Rattle.origins.specs.declared.making.Making.{Making}

abbrev pub is_same : Place → Place → Bool
is_same (Register n) (Register m) = n == m
is_same (Special n) (Special m) = n == m
is_same (Granule n) (Granule m) = n == m
is_same place other = false

-- whether an entry is of one of the first n events, and of this place
abbrev pub is_of : Link → Place → ℕ → Bool
is_of link place n = is_same link.place place && nat_lt link.found.before n

-- the last of the first n events in a log that wrote a place; where none did, what was found before
abbrev pub logged : List Link → Place → ℕ → Option Found → Option Found
logged [] place n found = found
logged (l ∷ ls) place n found = logged ls place n (if is_of l place n then Some l.found else found)

-- the events in a log are in order, and none is before these
abbrev pub Ascends : ℕ → List Link → Type 0
Ascends n [] = Unit {0}
Ascends n (l ∷ ls) = (n ≤ l.found.before) × Ascends l.found.before ls

-- ---- over a history

abbrev pub IsIn : Place → History → Type 0
IsIn place h = IsThere place h.opening

pub record IsHistory (h : History) : Type 0 where
  pub early : (n : ℕ) (p : Place) (f : Found) → h.last_writer n p ≡ Some f → f.before < n

-- All are of events before this one, and there are their sources.
abbrev pub AreBefore : History → ℕ → List Link → Type 0
AreBefore h n [] = Unit {0}
AreBefore h n (l ∷ ls) = (l.found.before < n) × (IfSome (source l.found.making) (λ from. IsIn from h)) × AreBefore h n ls

-- What a log of the events from one on to another says is what wrote a place last.
pub record IsLog (h : History) (from to : ℕ) (log : List Link) : Type 0 where
  pub ascends : Ascends from log
  pub before : AreBefore h to log
  pub finds : (place : Place) (n : ℕ) → IsIn place h → from ≤ n → n ≤ to
      → h.last_writer n place ≡ logged log place n (h.last_writer from place)

-- What one event logs.
pub record IsLogged (h : History) (k : ℕ) (made : Place → Option Making) (log : List Link) : Type 0 where
  pub at : Ascends k log
  pub before : AreBefore h (suc k) log
  pub finds : (place : Place) (found : Option Found) → IsIn place h → logged log place (suc k) found ≡ newer k (made place) found

-- links down from an event to another, the newest first
abbrev pub LeadDown : History → ℕ → ℕ → List Link → Type 0
LeadDown h top low [] = low ≡ top
LeadDown h top low (l ∷ ls) = IsIn l.place h × (h.last_writer top l.place ≡ Some l.found) × LeadDown h l.found.before low ls

-- a chain with links above
abbrev pub above : List Link → Chain → Chain
above links chain = record { links = links ++ chain.links; opening = chain.opening }

abbrev pub chain_from : History → Option Place → ℕ → Chain
chain_from h (Some place) n = whole_chain h.last_writer place n
chain_from h None n = no_links None

-- Links of the first events, the newest first: each is of what wrote its place last before the one above.
pub record AreLinks (h : History) (events : ℕ) (links : List Link) : Type 0 where
  pub low : ℕ
  pub leads : LeadDown h events low links

-- The first link is of the place that is followed; where there is none it is followed on.
abbrev pub Begins : Place → List Link → Option Place → Type 0
Begins place [] next = next ≡ Some place
Begins place (l ∷ ls) next = l.place ≡ place

-- What following a place through a log gives: the links, and the place that is followed before its events.
pub record Follows (h : History) (from to : ℕ) (place : Place) (links : List Link) (next : Option Place) : Type 0 where
  pub chain : whole_chain h.last_writer place to ≡ above links (chain_from h next from)
  pub are_links : AreLinks h to links
  pub there : IfSome next (λ p. IsIn p h)
  pub begins : Begins place links next
  -- and nothing wrote the place that is followed on, down to there
  pub on : IfSome next (λ p. h.last_writer are_links.low p ≡ h.last_writer from p)
