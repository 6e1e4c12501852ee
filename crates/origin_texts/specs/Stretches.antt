-- Links as lines. Of many one after the other that are told alike the newest and the oldest have theirs, and those between are counted.
use Rattle.std.specs.Prelude.{ℕ, ◌-◌, Bool, true, ◌&&◌, nat_lt, if◌then◌else◌, List, [], ◌∷◌, ◌++◌, length, codes, decimal, bytes_eq}

-- What is told of a link: the place, where its value came from and what was cut; the instruction; and the line of all that.
pub record Told : Type 0 where
  pub source : List ℕ
  pub step : List ℕ
  pub line : List ℕ

-- They differ in the step's number and in what it wrote alone.
abbrev pub is_alike : Told → Told → Bool
is_alike t u = bytes_eq t.source u.source && bytes_eq t.step u.step

-- ---- stretches of links that are told alike

-- whether an older link belongs to a stretch
abbrev pub goes_on : List Told → Told → Bool
goes_on [] older = true
goes_on (t ∷ ts) older = is_alike t older

-- the stretches of links, the newest first, that go on after those of the first stretch
abbrev pub stretches : List Told → List Told → List (List Told)
stretches first [] = first ∷ []
stretches first (t ∷ ts) = if goes_on first t then stretches (first ++ t ∷ []) ts else first ∷ stretches (t ∷ []) ts

-- ---- their text

abbrev pub lines : List Told → List ℕ
lines [] = []
lines (t ∷ ts) = t.line ++ lines ts

abbrev pub last_line : Told → List Told → List ℕ
last_line t [] = t.line
last_line t (u ∷ us) = last_line u us

-- links that are told alike as one, by their count
abbrev pub counted_line : Told → ℕ → List ℕ
counted_line t count = t.source ++ codes ", " ++ decimal count ++ codes " times: " ++ t.step ++ codes "\n"

-- of a stretch of more than three: the newest, those between, the oldest
abbrev pub stretch_text : List Told → List ℕ
stretch_text [] = []
stretch_text (t ∷ ts) =
    if nat_lt 2 (length ts) then t.line ++ counted_line t (length ts - 1) ++ last_line t ts else lines (t ∷ ts)

abbrev pub stretch_texts : List (List Told) → List ℕ
stretch_texts [] = []
stretch_texts (s ∷ ss) = stretch_text s ++ stretch_texts ss
