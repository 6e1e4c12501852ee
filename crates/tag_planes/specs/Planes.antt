-- Tags in bit planes: 64 granules a word, the first granule's tag in the lowest bit.
use Rattle.std.specs.Prelude.{◌≡◌, ℕ, ◌*◌, ◌/◌, ◌%◌, ◌<◌, ◌≤◌, Bool, true, false, ◌==◌, List, length, map, slice_index}
use Rattle.std.specs.Int.{bit_at}
use Rattle.std.specs.List.{range_with_len}

-- the tag of a granule, counted from 0
abbrev pub tag_at : List ℕ → ℕ → Bool
tag_at planes granule = bit_at (slice_index planes (granule / 64)) (granule % 64) == 1

-- the tags of all granules in order
abbrev pub tags_of : List ℕ → List Bool
tags_of planes = map (tag_at planes) (range_with_len 0 (64 * length planes))

-- the first tagged granule from one on, or the number of all granules where none is tagged
pub record IsNextTag (planes : List ℕ) (from next : ℕ) : Type 0 where
  pub not_before : from ≤ next
  pub within : next ≤ 64 * length planes
  pub none_between : (k : ℕ) → from ≤ k → k < next → tag_at planes k ≡ false
  pub tagged : next < 64 * length planes → tag_at planes next ≡ true
