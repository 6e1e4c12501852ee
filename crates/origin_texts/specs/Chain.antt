-- A chain of links: what wrote a place last, what wrote its source last before that, and so on.
use Rattle.std.specs.Prelude.{ℕ, zero, suc, List, [], ◌∷◌, Option, Some, None}
use Rattle.origins.specs.Making.{source}
use Rattle.origins.specs.declared.place.Place.{Place}
use Rattle.origins.specs.declared.search.Found.{Found}
use Rattle.steps.specs.State.{State}
use Rattle.origin_texts.specs.declared.log.Link.{Link}

-- What wrote a place last among so many first events, and the state before them.
pub record History : Type 0 where
  pub last_writer : ℕ → Place → Option Found
  pub opening : State

-- Links, the newest first. They lead down to a place of the opening state, or to a number.
pub record Chain : Type 0 where
  pub links : List Link
  pub opening : Option Place

abbrev pub no_links : Option Place → Chain
no_links opening = record { links = []; opening = opening }

abbrev pub linked : Link → Chain → Chain
linked link chain = record { links = link ∷ chain.links; opening = chain.opening }

abbrev pub link_at : Place → Found → Link
link_at place found = record { place = place; found = found }

abbrev pub follow_on : (Place → ℕ → Chain) → Option Place → ℕ → Chain
follow_on follow (Some from) n = follow from n
follow_on follow None n = no_links None

abbrev pub chain_by : (Place → ℕ → Chain) → Place → Option Found → Chain
chain_by follow place None = no_links (Some place)
chain_by follow place (Some found) = linked (link_at place found) (follow_on follow (source found.making) found.before)

-- Each link's event comes before that of the link above it, so that as many links suffice as there are events, and one.
abbrev pub chain : (ℕ → Place → Option Found) → ℕ → Place → ℕ → Chain
chain last_writer zero place n = no_links None
chain last_writer (suc links) place n = chain_by (chain last_writer links) place (last_writer n place)

-- how what a place holds after so many events came to be
abbrev pub whole_chain : (ℕ → Place → Option Found) → Place → ℕ → Chain
whole_chain last_writer place n = chain last_writer (suc n) place n
