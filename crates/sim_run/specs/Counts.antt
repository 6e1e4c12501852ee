-- What a watch counts of the addresses that steps are fetched at. No definition of a run needs this.
use Rattle.std.specs.Prelude.{◌≡◌, ℕ, ◌+◌, ◌≤◌, List}
use Rattle.std.specs.BTreeMap.{BTreeMap}
use Rattle.symbols.specs.Symbols.{Symbol}
use Rattle.sim_run.specs.Profile.{IsSound, count_at, count_of}

-- from the one table to the other addresses were counted
pub record CountsMore (symbols : List Symbol) (addresses : List ℕ) (old new : BTreeMap ℕ ℕ) : Type 0 where
  pub sound : IsSound old → IsSound new
  pub counts : (place : ℕ) → count_of new place ≡ count_of old place + count_at symbols addresses place

-- no count is above a number
abbrev pub CountsTo : ℕ → BTreeMap ℕ ℕ → Type 0
CountsTo number tally = (place : ℕ) → count_of tally place ≤ number
