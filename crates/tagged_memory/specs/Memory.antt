-- Memory: a map from RAM addresses to bytes, and a set of tagged granules (UCAM-CL-TR-987, tagged memory: a tag for each
-- capability-sized, capability-aligned granule of 16 bytes).
use Rattle.std.specs.Prelude.{◌≡◌, ℕ, ◌+◌, ◌-◌, ◌*◌, ◌/◌, ◌%◌, ◌^◌, ◌<◌, ◌≤◌, Bool, true, not, ◌&&◌, ◌==◌, nat_lt, nat_le, if◌then◌else◌}
use Rattle.std.specs.Prelude.{List, ◌++◌, take, drop, length, map, filter, slice_index, Option, Some, None, replicate}
use Rattle.std.specs.Ordering.{nat_cmp}
use Rattle.std.specs.List.{range_with_len}
use Rattle.std.specs.FinSet as set
use Rattle.byteorder.specs.Endian.{little_number}
use Rattle.base.specs.Ram.{ram_base, page_bytes, most_pages}
use Rattle.cap_format.specs.Word.{memory_bytes, word_of_memory}
use Rattle.tagged_memory.specs.declared.fault.MemoryFault.{MemoryFault}
use Rattle.tagged_memory.specs.declared.fault.MemoryFault.TheVariants.{M3, M4}

-- RAM's bytes in order, and the addresses of its tagged granules
pub record Memory : Type 0 where
  pub bytes : List ℕ
  pub tags : set.FinSet nat_cmp

-- the `size` bytes from an address lie in RAM
unfoldable pub is_in_ram : Memory → ℕ → ℕ → Bool
is_in_ram m address size = nat_le ram_base address && nat_le (address + size) (ram_base + length m.bytes)

-- the `size` bytes from an address
abbrev pub bytes_at : Memory → ℕ → ℕ → List ℕ
bytes_at m address size = take size (drop (address - ram_base) m.bytes)

-- the number in the `size` bytes from an address, the lowest byte first
abbrev pub number_at : Memory → ℕ → ℕ → ℕ
number_at m address size = little_number size (drop (address - ram_base) m.bytes)

-- the word in the granule at an address, and whether it is tagged
abbrev pub word_at : Memory → ℕ → ℕ
word_at m address = word_of_memory (bytes_at m address 16)

abbrev pub has_tag : Memory → ℕ → Bool
has_tag m granule = set.contains m.tags granule

-- the bytes from an address on replaced by new ones
abbrev pub replaced_at : Memory → ℕ → List ℕ → List ℕ
replaced_at m address new = take (address - ram_base) m.bytes ++ new ++ drop (address - ram_base + length new) m.bytes

-- some of the `size` bytes from an address lies in the granule
abbrev pub touches : ℕ → ℕ → ℕ → Bool
touches address size granule = nat_lt 0 size && (nat_lt granule (address + size) && nat_lt address (granule + 16))

-- A write of data changes its bytes and takes the tag of each granule that it touches, and nothing else.
unfoldable pub data_written : Memory → ℕ → List ℕ → Memory
data_written m address new = record {
  bytes = replaced_at m address new;
  tags = set.retain m.tags (λ granule. not (touches address (length new) granule));
}

-- A write of a capability changes the 16 bytes of its granule and puts the granule into the set of tagged ones or out of it.
unfoldable pub capability_written : Memory → ℕ → ℕ → Bool → Memory
capability_written m address word tag = record {
  bytes = replaced_at m address (memory_bytes word);
  tags = if tag then set.insert m.tags address else set.remove m.tags address;
}

-- the granules of RAM in ascending order
abbrev pub granules : Memory → List ℕ
granules m = map (λ k. ram_base + 16 * k) (range_with_len 0 (length m.bytes / 16))

-- the tagged granules at addresses from `from` on and below `to`, in ascending order
unfoldable pub tagged_between : Memory → ℕ → ℕ → List ℕ
tagged_between m from to = filter (λ a. has_tag m a && (nat_le from a && nat_lt a to)) (granules m)

-- Why an access may not be made: misaligned before outside RAM.
unfoldable pub place_fault : Memory → ℕ → ℕ → Option MemoryFault
place_fault m address size =
    if not (address % size == 0) then Some M4 else (if not (is_in_ram m address size) then Some M3 else None)

-- Why bytes may not be filled in: outside RAM.
unfoldable pub fill_fault : Memory → ℕ → ℕ → Option MemoryFault
fill_fault m address size = if not (is_in_ram m address size) then Some M3 else None

-- A word that is stored with its tag is loaded again with it.
abbrev pub StoredIsLoaded : Type 0
StoredIsLoaded =
    (m : Memory) (address word : ℕ) (tag : Bool) → place_fault m address 16 ≡ None → word < 2 ^ 128
    → (word_at (capability_written m address word tag) address ≡ word) × (has_tag (capability_written m address word tag) address ≡ tag)

-- memory of so many pages as it begins: zeros, and no tag
abbrev pub zeroed : ℕ → Memory
zeroed pages = record { bytes = replicate (page_bytes * pages) 0; tags = set.empty }

-- What is true of every memory: 1 to the most whole pages of bytes, and only whole granules of RAM are tagged.
pub record IsMemory (m : Memory) : Type 0 where
  pub pages : ℕ
  pub whole_pages : length m.bytes ≡ page_bytes * pages
  pub some_page : 1 ≤ pages
  pub not_too_many : pages ≤ most_pages
  pub are_bytes : (k : ℕ) → slice_index m.bytes k < 256
  pub granules_aligned : (a : ℕ) → has_tag m a ≡ true → a % 16 ≡ 0
  pub granules_in_ram : (a : ℕ) → has_tag m a ≡ true → is_in_ram m a 16 ≡ true
