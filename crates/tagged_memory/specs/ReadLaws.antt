-- What is read of a memory is in range: a number of n bytes is below 256 ^ n, and a word has 128 bits. Zeros are a memory.
use Rattle.std.proofs.Common.{◌≡◌, ℕ, zero, suc, ◌+◌, ◌-◌, ◌*◌, ◌^◌, ◌<◌, ◌≤◌, true, List, [], ◌∷◌, take, drop, arith, lit<}
use Rattle.std.specs.Prelude.{slice_index, replicate}
use Rattle.std.specs.FinSet as set
use Rattle.std.specs.Ordering.{nat_cmp}
use Rattle.std.proofs.lemmas.Bool.{both_ways}
use Rattle.std.specs.Int.{w128, from_le_bytes}
use Rattle.std.proofs.Math.Nat.{pow-succ'}
use Rattle.std.proofs.lemmas.List.{get_or-drop, length-replicate}
use Rattle.std.proofs.lemmas.Nat.{xor_lt}
use Rattle.byteorder.specs.Endian.{little_from}
use Rattle.base.specs.Ram.{ram_base, page_bytes, most_pages}
use Rattle.cap_format.specs.Word.{null_word}
use Rattle.tagged_memory.specs.Memory.{Memory, IsMemory, number_at, bytes_at, word_at, has_tag, zeroed}

-- each element is a byte
abbrev AreBytes : List ℕ → Type 0
AreBytes xs = (k : ℕ) → slice_index xs k < 256

AreBytes-drop : (n : ℕ) (xs : List ℕ) → AreBytes xs → AreBytes (drop n xs)
AreBytes-drop n xs bytes = λ k. let same = get_or-drop n xs k 0 in omega (arith, bytes (n + k))

byte_of : (n x : ℕ) (xs : List ℕ) → x < 256 → AreBytes (take n xs) → AreBytes (x ∷ take n xs)
byte_of n x xs first others zero = first
byte_of n x xs first others (suc k) = others k

AreBytes-take : (n : ℕ) (xs : List ℕ) → AreBytes xs → AreBytes (take n xs)
AreBytes-take zero xs bytes = λ k. lit< tt
AreBytes-take (suc n) [] bytes = bytes
AreBytes-take (suc n) (x ∷ xs) bytes = λ k. byte_of n x xs (bytes 0) (AreBytes-take n xs (λ j. bytes (suc j))) k

little_from-below : (i n : ℕ) (xs : List ℕ) → AreBytes xs → little_from i n xs < 256 ^ n
little_from-below i zero xs bytes = lit< tt
little_from-below i (suc n) xs bytes =
    let rest = little_from-below (suc i) n xs bytes in
    rw (pow-succ' 256 n) (omega (arith, bytes i))

pub number_at-below : (m : Memory) (address n : ℕ) → IsMemory m → number_at m address n < 256 ^ n
number_at-below m address n memory = little_from-below 0 n (drop (address - ram_base) m.bytes)
    (AreBytes-drop (address - ram_base) m.bytes memory.are_bytes)

from_le_bytes-below : (xs : List ℕ) → AreBytes xs → from_le_bytes w128 xs < 2 ^ 128
from_le_bytes-below xs bytes =
    omega (
      arith,
      bytes 0,
      bytes 1,
      bytes 2,
      bytes 3,
      bytes 4,
      bytes 5,
      bytes 6,
      bytes 7,
      bytes 8,
      bytes 9,
      bytes 10,
      bytes 11,
      bytes 12,
      bytes 13,
      bytes 14,
      bytes 15,
    )

pub word_at-below : (m : Memory) (address : ℕ) → IsMemory m → word_at m address < 2 ^ 128
word_at-below m address memory =
    let bytes = AreBytes-take 16 (drop (address - ram_base) m.bytes) (AreBytes-drop (address - ram_base) m.bytes memory.are_bytes) in
    xor_lt 128 (from_le_bytes w128 (bytes_at m address 16)) null_word (from_le_bytes-below (bytes_at m address 16) bytes) (lit< tt)

-- ---- memory as it begins

bytes_of_zeros : (n k : ℕ) → slice_index (replicate n 0) k < 256
bytes_of_zeros zero k = lit< tt
bytes_of_zeros (suc n) zero = lit< tt
bytes_of_zeros (suc n) (suc k) = bytes_of_zeros n k

untagged : (pages granule : ℕ) → has_tag (zeroed pages) granule ≡ true → ⊥
untagged pages granule tagged = both_ways _ (set.contains-empty nat_cmp granule) tagged

pub IsMemory-zeroed : (pages : ℕ) → 1 ≤ pages → pages ≤ most_pages → IsMemory (zeroed pages)
IsMemory-zeroed pages some few = record {
  pages = pages;
  whole_pages = length-replicate (page_bytes * pages) 0;
  some_page = some;
  not_too_many = few;
  are_bytes = bytes_of_zeros (page_bytes * pages);
  granules_aligned = λ granule tagged. absurd (untagged pages granule tagged);
  granules_in_ram = λ granule tagged. absurd (untagged pages granule tagged);
}
