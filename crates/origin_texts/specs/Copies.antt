-- Double words that were copied at events among the first.
use Rattle.std.specs.Prelude.{ℕ, ◌≤◌}
use Rattle.origin_texts.specs.declared.copied.Copy.{Copy}
use Rattle.origin_texts.specs.declared.copied.Half.{Half}

abbrev pub IsEarly : ℕ → Half → Type 0
IsEarly n h = (h.loaded ≤ n) × (h.stored ≤ n)

abbrev pub AreEarly : ℕ → Copy → Type 0
AreEarly n copy = IsEarly n copy.lower × IsEarly n copy.upper
