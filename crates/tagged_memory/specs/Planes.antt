-- Memory's tags in bit planes: 64 granules a word, the first granule's tag in the lowest bit.
use Rattle.std.specs.Prelude.{◌≡◌, ◌↔◌, ℕ, ◌+◌, ◌*◌, ◌<◌, true, List, length, slice_index}
use Rattle.std.specs.Int.{bit_at}
use Rattle.base.specs.Ram.{ram_base, page_bytes}
use Rattle.tagged_memory.specs.Memory.{Memory, has_tag}

-- The words are a memory's tags: four words a page, and bit j of word k is 1 exactly if RAM's granule number 64 * k + j is tagged.
pub record ArePlanes (planes : List ℕ) (m : Memory) : Type 0 where
  pub four_a_page : page_bytes * length planes ≡ 4 * length m.bytes
  pub bit_each : (k j : ℕ) → j < 64 → (bit_at (slice_index planes k) j ≡ 1) ↔ (has_tag m (ram_base + 16 * (64 * k + j)) ≡ true)
