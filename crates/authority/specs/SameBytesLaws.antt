-- Equal bytes are equal numbers and equal words.
use Rattle.std.proofs.Common.{◌≡◌, ℕ, zero, suc, ◌+◌, ◌-◌, ◌<◌, ◌≤◌, true, List, take, drop, length, refl, sym, ◌∙◌, arith}
use Rattle.std.specs.Prelude.{slice_index}
use Rattle.std.proofs.lemmas.Grind.{same_number_lists}
use Rattle.std.proofs.lemmas.List.{get_or-take, get_or-drop, length-drop, length-take-le}
use Rattle.byteorder.specs.Endian.{little_from}
use Rattle.base.specs.Ram.{ram_base}
use Rattle.tagged_memory.specs.Memory.{Memory, is_in_ram, number_at, word_at}
use Rattle.tagged_memory.specs.MemoryLaws.{in_ram}

little_from-same : (i n : ℕ) (xs ys : List ℕ) → ((k : ℕ) → i ≤ k → k < i + n → slice_index ys k ≡ slice_index xs k)
    → little_from i n ys ≡ little_from i n xs
little_from-same i zero xs ys same = refl
little_from-same i (suc n) xs ys same =
    let first : slice_index ys i ≡ slice_index xs i = same i (omega arith) (omega arith) in
    let others : little_from (suc i) n ys ≡ little_from (suc i) n xs =
    little_from-same (suc i) n xs ys (λ k low high. same k (omega arith) (omega arith)) in
    rw (first, others) refl

-- in two memories the `size` bytes from an address, which lie in RAM, are equal
pub record HasSameBytes (m other : Memory) (address size : ℕ) : Type 0 where
  pub inside : is_in_ram m address size ≡ true
  pub length : length other.bytes ≡ length m.bytes
  pub bytes :
      (b : ℕ) → address ≤ b → b < address + size
      → slice_index other.bytes (b - ram_base) ≡ slice_index m.bytes (b - ram_base)

module _ (m other : Memory) (address size : ℕ) (same : HasSameBytes m other address size) where
  abbrev place : ℕ
  place = address - ram_base

  byte-same : (k : ℕ) → k < size → slice_index other.bytes (place + k) ≡ slice_index m.bytes (place + k)
  byte-same k below =
      let inside = in_ram m address size same.inside in
      let low : ram_base ≤ address = inside.0 in
      let here : address + k - ram_base ≡ address - ram_base + k = omega arith in
      rw here at (same.bytes (address + k) (omega arith) (omega arith))

  pub number_at-same : number_at other address size ≡ number_at m address size
  number_at-same =
      little_from-same 0 size (drop place m.bytes) (drop place other.bytes) (λ k low high.
      get_or-drop place other.bytes k 0 ∙ byte-same k (omega arith) ∙ sym (get_or-drop place m.bytes k 0))

  part : (x : Memory) → length x.bytes ≡ length m.bytes → length (take size (drop place x.bytes)) ≡ size
  part x long =
      let inside = in_ram m address size same.inside in
      let fits : address - ram_base + size ≤ length m.bytes = inside.1 in
      length-take-le size (drop place x.bytes) (omega (arith, length-drop place x.bytes))

  pub bytes_at-same : take size (drop place other.bytes) ≡ take size (drop place m.bytes)
  bytes_at-same =
      same_number_lists (take size (drop place other.bytes)) (take size (drop place m.bytes)) (part other same.length ∙ sym (part m refl))
      (λ k below.
      let under : k < size = omega (arith, part other same.length) in
      get_or-take size (drop place other.bytes) k 0 under ∙ get_or-drop place other.bytes k 0 ∙ byte-same k under
      ∙ sym (get_or-take size (drop place m.bytes) k 0 under ∙ get_or-drop place m.bytes k 0))

pub word_at-same : (m other : Memory) (address : ℕ) → HasSameBytes m other address 16 → word_at other address ≡ word_at m address
word_at-same m other address same = rw (bytes_at-same m other address 16 same) refl
