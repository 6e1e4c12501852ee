-- What writes leave as it was. The hart's laws rest on these.
use Rattle.std.specs.Prelude.{◌≡◌, ℕ, ◌+◌, ◌-◌, ◌%◌, ◌^◌, ◌<◌, ◌≤◌, Bool, true, false, not, ◌&&◌, ◌||◌, List, length, slice_index, bit_xor}
use Rattle.std.proofs.Common.{◌⊎◌, ⊎_elim, inl, inr, cond, eqb, refl, sym, ap, subst, ◌∙◌, arith}
use Rattle.std.proofs.lemmas.Bool.{and_from, le-leb, and_parts, and_cases, not-true, leb-true, ltb-false, cases_lt, cases_eq, cond-true}
use Rattle.std.proofs.lemmas.Bool.{cond-false, eq-eqb, ne_eqb}
use Rattle.std.specs.Cmp.{nat_cmp_total, unsigned_tied}
use Rattle.std.specs.FinSet as set
use Rattle.std.specs.FinSet.{nat_cmp-IsAntisymmetric}
use Rattle.base.specs.Ram.{ram_base}
use Rattle.tagged_memory.specs.Memory.{Memory, is_in_ram, has_tag, word_at, touches, data_written, capability_written, IsMemory}
use Rattle.tagged_memory.specs.Replaced.{replaced, length-same, element-kept, element-new, part-kept, part-untouched, part-new}
use Rattle.tagged_memory.specs.Replaced.{low_first-lt}
use Rattle.cap_format.specs.Word.{memory_bytes, word_of_memory, null_word}
use Rattle.cap_format.specs.WordLaws.{word_of_memory-memory_bytes}

-- bytes in RAM, by arithmetic
pub in_ram : (m : Memory) (address size : ℕ) → is_in_ram m address size ≡ true
    → (ram_base ≤ address) × (address - ram_base + size ≤ length m.bytes)
unfolding is_in_ram
in_ram m address size e =
    let both = and_parts _ _ e in
    let low : ram_base ≤ address = leb-true _ _ both.0 in
    let high : address + size ≤ ram_base + length m.bytes = leb-true _ _ both.1 in
    (low, omega arith)

pub in_ram-from : (m : Memory) (address size : ℕ) → ram_base ≤ address → address + size ≤ ram_base + length m.bytes
    → is_in_ram m address size ≡ true
unfolding is_in_ram
in_ram-from m address size low high = and_from _ _ (le-leb _ _ low) (le-leb _ _ high)

in_ram-same : (m n : Memory) (address size : ℕ) → length n.bytes ≡ length m.bytes → is_in_ram m address size ≡ true
    → is_in_ram n address size ≡ true
unfolding is_in_ram
in_ram-same m n address size same e = rw same e

-- a write of data keeps the number of bytes
pub length-data_written : (m : Memory) (address : ℕ) (new : List ℕ) → is_in_ram m address (length new) ≡ true
    → length (data_written m address new).bytes ≡ length m.bytes
unfolding data_written
length-data_written m address new e =
    let place = in_ram m address (length new) e in
    length-same m.bytes (address - ram_base) new place.1

pub tags-data_written : (m : Memory) (address : ℕ) (new : List ℕ) (g : ℕ)
    → has_tag (data_written m address new) g ≡ (has_tag m g && not (touches address (length new) g))
unfolding data_written
tags-data_written m address new g =
    set.contains-retain m.tags (λ a. not (touches address (length new) a)) g
    (λ x tie. ap (λ a. not (touches address (length new) a)) (sym (nat_cmp-IsAntisymmetric g x tie)))

-- a granule that is tagged after a write of data was tagged before
pub tagged-before_data_written : (m : Memory) (address : ℕ) (new : List ℕ) (g : ℕ) → has_tag (data_written m address new) g ≡ true
    → has_tag m g ≡ true
tagged-before_data_written m address new g e = (and_parts _ _ (sym (tags-data_written m address new g) ∙ e)).0

-- a byte that is not written stays
pub byte-data_written : (m : Memory) (address : ℕ) (new : List ℕ) → is_in_ram m address (length new) ≡ true → (b : ℕ) → ram_base ≤ b
    → (b < address) ⊎ (address + length new ≤ b)
    → slice_index (data_written m address new).bytes (b - ram_base) ≡ slice_index m.bytes (b - ram_base)
unfolding data_written
byte-data_written m address new e b low far =
    let place = in_ram m address (length new) e in
    let at : (b - ram_base < address - ram_base) ⊎ (address - ram_base + length new ≤ b - ram_base) =
    ⊎_elim (λ below. inl (omega arith)) (λ past. inr (omega arith)) far in
    element-kept m.bytes (address - ram_base) new place.1 (b - ram_base) 0 at

-- a granule that is tagged after a write of data has the word that it had
pub word_at-data_written : (m : Memory) (address : ℕ) (new : List ℕ) → IsMemory m → is_in_ram m address (length new) ≡ true → (g : ℕ)
    → has_tag (data_written m address new) g ≡ true
    → word_at (data_written m address new) g ≡ word_at m g
unfolding data_written
word_at-data_written m address new sound e g tagged =
    let place = in_ram m address (length new) e in
    let both = and_parts _ _ (sym (tags-data_written m address new g) ∙ tagged) in
    let granule = in_ram m g 16 (sound.granules_in_ram g both.0) in
    ⊎_elim (λ empty. ap word_of_memory
    (part-untouched m.bytes (address - ram_base) new place.1 (g - ram_base) 16 granule.1
    (let none : length new ≤ 0 = ltb-false _ _ empty in none)))
    (λ apart.
    let far : (g - ram_base + 16 ≤ address - ram_base) ⊎ (address - ram_base + length new ≤ g - ram_base) =
    ⊎_elim (λ after. inr (let h : address + length new ≤ g = ltb-false _ _ after in omega arith))
    (λ before. inl (let h : g + 16 ≤ address = ltb-false _ _ before in omega arith)) (and_cases _ _ apart) in
    ap word_of_memory (part-kept m.bytes (address - ram_base) new place.1 (g - ram_base) 16 granule.1 far))
    (and_cases _ _ (not-true _ both.1))

-- bytes stay bytes where others replace some of them
pub bytes_replaced : (old new : List ℕ) (place : ℕ) → place + length new ≤ length old → ((k : ℕ) → slice_index old k < 256)
    → ((k : ℕ) → slice_index new k < 256) → (k : ℕ)
    → slice_index (replaced old place new) k < 256
bytes_replaced old new place fits was is k =
    ⊎_elim (λ below. let e = element-kept old place new fits k 0 (inl below) in omega (arith, was k))
    (λ above. ⊎_elim (λ inside. let e = element-new old place new fits k 0 above inside in omega (arith, is (k - place)))
    (λ past. let e = element-kept old place new fits k 0 (inr past) in omega (arith, was k)) (cases_lt k (place + length new)))
    (cases_lt k place)

bytes_after : (m : Memory) (address : ℕ) (new : List ℕ) → IsMemory m → is_in_ram m address (length new) ≡ true
    → ((k : ℕ) → slice_index new k < 256) → (k : ℕ)
    → slice_index (data_written m address new).bytes k < 256
unfolding data_written
bytes_after m address new sound e bytes k =
    let place = in_ram m address (length new) e in
    bytes_replaced m.bytes new (address - ram_base) place.1 sound.are_bytes bytes k

-- a write of data leaves a memory
pub IsMemory-data_written : (m : Memory) (address : ℕ) (new : List ℕ) → IsMemory m → is_in_ram m address (length new) ≡ true
    → ((k : ℕ) → slice_index new k < 256) → IsMemory (data_written m address new)
IsMemory-data_written m address new sound e bytes = record {
  pages = sound.pages;
  whole_pages = length-data_written m address new e ∙ sound.whole_pages;
  some_page = sound.some_page;
  not_too_many = sound.not_too_many;
  are_bytes = bytes_after m address new sound e bytes;
  granules_aligned = λ a tagged. sound.granules_aligned a (tagged-before_data_written m address new a tagged);
  granules_in_ram =
      λ a tagged. in_ram-same m (data_written m address new) a 16 (length-data_written m address new e)
      (sound.granules_in_ram a (tagged-before_data_written m address new a tagged));
}

-- a write of a capability keeps the number of bytes
pub length-capability_written : (m : Memory) (address word : ℕ) (tag : Bool) → is_in_ram m address 16 ≡ true
    → length (capability_written m address word tag).bytes ≡ length m.bytes
unfolding capability_written
length-capability_written m address word tag e =
    let place = in_ram m address 16 e in
    length-same m.bytes (address - ram_base) (memory_bytes word) place.1

or_is_cond : (x y : Bool) → (x || y) ≡ cond x true y
or_is_cond true y = refl
or_is_cond false y = refl

and_is_cond : (x y : Bool) → (not x && y) ≡ cond x false y
and_is_cond true y = refl
and_is_cond false y = refl

-- it changes the tag of its granule alone
pub has_tag-capability_written : (m : Memory) (address word : ℕ) (tag : Bool) (g : ℕ)
    → has_tag (capability_written m address word tag) g ≡ cond (eqb g address) tag (has_tag m g)
unfolding capability_written
has_tag-capability_written m address word true g =
    set.contains-insert nat_cmp_total m.tags address g ∙ ap (λ b. b || has_tag m g) (unsigned_tied g address)
    ∙ or_is_cond (eqb g address) (has_tag m g)
has_tag-capability_written m address word false g =
    set.contains-remove nat_cmp_total m.tags address g ∙ ap (λ b. not b && has_tag m g) (unsigned_tied g address)
    ∙ and_is_cond (eqb g address) (has_tag m g)

pub has_tag-capability_written_here : (m : Memory) (address word : ℕ) (tag : Bool)
    → has_tag (capability_written m address word tag) address ≡ tag
has_tag-capability_written_here m address word tag =
    has_tag-capability_written m address word tag address
    ∙ cond-true (eqb address address) tag (has_tag m address) (eq-eqb address address refl)

pub has_tag-capability_written_other : (m : Memory) (address word : ℕ) (tag : Bool) (g : ℕ) → (g ≡ address → ⊥)
    → has_tag (capability_written m address word tag) g ≡ has_tag m g
has_tag-capability_written_other m address word tag g other =
    has_tag-capability_written m address word tag g ∙ cond-false (eqb g address) tag (has_tag m g) (ne_eqb g address other)

-- a byte outside the granule stays
pub byte-capability_written : (m : Memory) (address word : ℕ) (tag : Bool) → is_in_ram m address 16 ≡ true → (b : ℕ) → ram_base ≤ b
    → (b < address) ⊎ (address + 16 ≤ b)
    → slice_index (capability_written m address word tag).bytes (b - ram_base) ≡ slice_index m.bytes (b - ram_base)
unfolding capability_written
byte-capability_written m address word tag e b low far =
    let place = in_ram m address 16 e in
    let at : (b - ram_base < address - ram_base) ⊎ (address - ram_base + 16 ≤ b - ram_base) =
    ⊎_elim (λ below. inl (omega arith)) (λ past. inr (omega arith)) far in
    element-kept m.bytes (address - ram_base) (memory_bytes word) place.1 (b - ram_base) 0 at

-- and another tagged granule keeps its word
pub word_at-capability_written_other : (m : Memory) (address word : ℕ) (tag : Bool) → IsMemory m → address % 16 ≡ 0
    → is_in_ram m address 16 ≡ true → (g : ℕ) → has_tag m g ≡ true → (g ≡ address → ⊥)
    → word_at (capability_written m address word tag) g ≡ word_at m g
unfolding capability_written
word_at-capability_written_other m address word tag sound aligned e g tagged other =
    let place = in_ram m address 16 e in
    let granule = in_ram m g 16 (sound.granules_in_ram g tagged) in
    let multiple : g % 16 ≡ 0 = sound.granules_aligned g tagged in
    let far : (g - ram_base + 16 ≤ address - ram_base) ⊎ (address - ram_base + 16 ≤ g - ram_base) =
    ⊎_elim (λ before. inl (omega arith)) (λ after. inr (omega (arith, other))) (cases_lt g address) in
    ap word_of_memory (part-kept m.bytes (address - ram_base) (memory_bytes word) place.1 (g - ram_base) 16 granule.1 far)

memory_bytes-lt : (word k : ℕ) → slice_index (memory_bytes word) k < 256
memory_bytes-lt word k = low_first-lt 0 16 (bit_xor word null_word) k

bytes_after_word : (m : Memory) (address word : ℕ) (tag : Bool) → IsMemory m → is_in_ram m address 16 ≡ true → (k : ℕ)
    → slice_index (capability_written m address word tag).bytes k < 256
unfolding capability_written
bytes_after_word m address word tag sound e k =
    let place = in_ram m address 16 e in
    bytes_replaced m.bytes (memory_bytes word) (address - ram_base) place.1 sound.are_bytes (memory_bytes-lt word) k

tagged_after_word : (m : Memory) (address word : ℕ) (tag : Bool) → (P : ℕ → Type 0) → P address → ((g : ℕ) → has_tag m g ≡ true → P g)
    → (g : ℕ) → has_tag (capability_written m address word tag) g ≡ true → P g
tagged_after_word m address word tag P here others g tagged =
    ⊎_elim (λ same. subst P (sym same) here)
    (λ other. others g (sym (has_tag-capability_written_other m address word tag g other) ∙ tagged)) (cases_eq g address)

-- a write of a capability leaves a memory
pub IsMemory-capability_written : (m : Memory) (address word : ℕ) (tag : Bool) → IsMemory m → address % 16 ≡ 0
    → is_in_ram m address 16 ≡ true → IsMemory (capability_written m address word tag)
IsMemory-capability_written m address word tag sound aligned e =
    let same = length-capability_written m address word tag e in
    record {
      pages = sound.pages;
      whole_pages = same ∙ sound.whole_pages;
      some_page = sound.some_page;
      not_too_many = sound.not_too_many;
      are_bytes = bytes_after_word m address word tag sound e;
      granules_aligned = tagged_after_word m address word tag (λ g. g % 16 ≡ 0) aligned sound.granules_aligned;
      granules_in_ram =
          tagged_after_word m address word tag (λ g. is_in_ram (capability_written m address word tag) g 16 ≡ true)
          (in_ram-same m (capability_written m address word tag) address 16 same e)
          (λ g tagged. in_ram-same m (capability_written m address word tag) g 16 same (sound.granules_in_ram g tagged));
    }

-- the granule has the word that was written
pub word_at-capability_written_here : (m : Memory) (address word : ℕ) (tag : Bool) → is_in_ram m address 16 ≡ true → word < 2 ^ 128
    → word_at (capability_written m address word tag) address ≡ word
unfolding capability_written
word_at-capability_written_here m address word tag e fits =
    let place = in_ram m address 16 e in
    ap word_of_memory (part-new m.bytes (address - ram_base) (memory_bytes word) place.1) ∙ word_of_memory-memory_bytes word fits
