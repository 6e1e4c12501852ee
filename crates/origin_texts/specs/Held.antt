-- What is kept of a stretch.
use Rattle.std.specs.Prelude.{◌≡◌, ℕ, List, [], ◌∷◌, ◌++◌, if◌then◌else◌, length, take, string_bytes}
use Rattle.origin_texts.specs.declared.told.Told as raw
use Rattle.origin_texts.specs.declared.stretch.Stretch.{Stretch}
use Rattle.origin_texts.specs.Stretches.{Told, goes_on, lines, last_line, stretch_text, stretch_texts, stretches}

abbrev pub as_told : raw.Told → Told
as_told t = record { source = string_bytes t.source; step = string_bytes t.step; line = string_bytes t.line }

-- what is told of links, of which the oldest stands first
abbrev pub newest_first : List raw.Told → List Told
newest_first [] = []
newest_first (t ∷ ts) = newest_first ts ++ as_told t ∷ []

abbrev pub IsNewest : Told → List Told → Type 0
IsNewest newest [] = Unit {0}
IsNewest newest (t ∷ ts) = newest ≡ t

abbrev pub IsOldest : List ℕ → List Told → Type 0
IsOldest oldest [] = Unit {0}
IsOldest oldest (t ∷ ts) = oldest ≡ last_line t ts

pub record IsStretch (stretch : Stretch) (links : List Told) : Type 0 where
  pub count : stretch.count ≡ length links
  pub lines : string_bytes stretch.lines ≡ lines (take 3 links)
  pub newest : IsNewest (as_told stretch.newest) links
  pub oldest : IsOldest (string_bytes stretch.oldest) links

-- ---- an older link is met

-- the links of the stretch then
abbrev pub met : List Told → Told → List Told
met links t = if goes_on links t then links ++ t ∷ [] else t ∷ []

-- the text of the stretch that ends there
abbrev pub ended : List Told → Told → List ℕ
ended links t = if goes_on links t then [] else stretch_text links

-- what is told of links is met, the newest first, and the texts of the stretches that end there are appended
pub record AreMet (old new : List ℕ) (stretch : Stretch) (first ts : List Told) : Type 0 where
  pub links : List Told
  pub is : IsStretch stretch links
  pub text : (rest : List Told) → new ++ stretch_texts (stretches links rest) ≡ old ++ stretch_texts (stretches first (ts ++ rest))
