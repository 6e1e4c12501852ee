-- How the fields of `Memory` keep its value: RAM's bytes in order, and one bit for each granule.
use Rattle.std.specs.Prelude.{◌≡◌, ℕ, ◌+◌, ◌*◌, ◌<◌, ◌≤◌, Bool, if◌then◌else◌, List, [], ◌∷◌, length, slice_index, refl}
use Rattle.std.specs.Ordering.{nat_cmp}
use Rattle.std.specs.FinSet as set
use Rattle.std.specs.Coded.{Coded, code_by, coded×, coded_list, coded_ℕ}
use Rattle.base.specs.Ram.{ram_base, page_bytes, most_pages}
use Rattle.tagged_memory.specs.Memory.{Memory}
use Rattle.tag_planes.specs.Planes.{tags_of}

-- the addresses of the granules whose truth value is true, the first granule at an address
unfoldable pub tags_from : ℕ → List Bool → set.FinSet nat_cmp
tags_from address [] = set.empty
tags_from address (tag ∷ tags) = if tag then set.insert (tags_from (address + 16) tags) address else tags_from (address + 16) tags

-- the memory of these bytes and bit planes
abbrev pub memory_of : List ℕ → List ℕ → Memory
memory_of bytes planes = record { bytes = bytes; tags = tags_from ram_base (tags_of planes) }

-- a memory is stored as the pair of its fields
abbrev pub memory_code : Coded Memory
memory_code =
    code_by (List ℕ × set.FinSet nat_cmp) (coded× (coded_list coded_ℕ) (set.code coded_ℕ)) (λ m. (m.bytes, m.tags))
    (λ p. record { bytes = p.0; tags = p.1 }) (λ _. refl)

-- 1 to the most whole pages of bytes, and a bit for each of their granules
pub record IsLaidOut (bytes planes : List ℕ) : Type 0 where
  pub pages : ℕ
  pub whole_pages : length bytes ≡ page_bytes * pages
  pub four_a_page : length planes ≡ 4 * pages
  pub some_page : 1 ≤ pages
  pub not_too_many : pages ≤ most_pages
  pub are_bytes : (k : ℕ) → slice_index bytes k < 256

-- the place of the `size` bytes from an address, among so many bytes of RAM
pub record IsPlace (address size room place : ℕ) : Type 0 where
  pub from_base : ram_base + place ≡ address
  pub within : place + size ≤ room
