-- What granules hold after a store, and after a step that leaves them alone.
use Rattle.std.proofs.Common.{◌≡◌, ℕ, ◌+◌, ◌<◌, ◌≤◌, List, length, true, sym, ap, ◌∙◌, subst, inl, inr, ◌⊎◌, None, arith}
use Rattle.std.specs.Prelude.{◌↔◌, ◌≢◌}
use Rattle.std.proofs.lemmas.Bool.{cases_eq}
use Rattle.base.specs.Ram.{ram_base}
use Rattle.cap_bounds.specs.CapValue.{CapValue, is_tagged, word_of, value_of, IsSound}
use Rattle.cap_bounds.specs.RecordLaws.{value_of-word_of}
use Rattle.cap_bounds.specs.SoundLaws.{word_of-below}
use Rattle.tagged_memory.specs.AccessLaws.{in_ram-place_fault, aligned-place_fault}
use Rattle.tagged_memory.specs.Memory.{Memory, IsMemory, has_tag, word_at, is_in_ram, place_fault, data_written, capability_written}
use Rattle.tagged_memory.specs.MemoryLaws.{in_ram, tagged-before_data_written, word_at-data_written, has_tag-capability_written_here}
use Rattle.tagged_memory.specs.MemoryLaws.{has_tag-capability_written_other}
use Rattle.tagged_memory.specs.MemoryLaws.{word_at-capability_written_here, word_at-capability_written_other}
use Rattle.authority.specs.Authority.{Not}
use Rattle.authority.specs.Reachable.{IsHeldAt}
use Rattle.authority.specs.SameBytesLaws.{word_at-same}
use Rattle.doors.specs.Sets.{IsWritableBy, LeavesMemoryBeyond}

pub data-held : (m : Memory) (address : ℕ) (new : List ℕ) → IsMemory m → is_in_ram m address (length new) ≡ true → (g : ℕ) (v : CapValue)
    → IsHeldAt (data_written m address new) g v → IsHeldAt m g v
data-held m address new memory inside g v here = record {
  tagged = tagged-before_data_written m address new g here.tagged;
  value = here.value ∙ ap (λ w. value_of w true) (word_at-data_written m address new memory inside g here.tagged);
}

module _ (m : Memory) (address : ℕ) (v : CapValue) (memory : IsMemory m) (none : place_fault m address 16 ≡ None) (sound : IsSound v) where
  abbrev later : Memory
  later = capability_written m address (word_of v) (is_tagged v)

  inside : is_in_ram m address 16 ≡ true
  inside = in_ram-place_fault m address 16 none

  held-here : (w : CapValue) → IsHeldAt later address w → w ≡ v
  held-here w here =
      let tag : is_tagged v ≡ true = sym (has_tag-capability_written_here m address (word_of v) (is_tagged v)) ∙ here.tagged in
      let word : word_at later address ≡ word_of v =
      word_at-capability_written_here m address (word_of v) (is_tagged v) inside (word_of-below v sound) in
      here.value ∙ ap (λ n. value_of n true) word ∙ ap (value_of (word_of v)) (sym tag) ∙ value_of-word_of v sound

  held-elsewhere : (g : ℕ) → (g ≡ address → ⊥) → (w : CapValue) → IsHeldAt later g w → IsHeldAt m g w
  held-elsewhere g apart w here =
      let before : has_tag m g ≡ true = sym (has_tag-capability_written_other m address (word_of v) (is_tagged v) g apart) ∙ here.tagged in
      record {
        tagged = before;
        value = here.value
            ∙ ap (λ n. value_of n true)
            (word_at-capability_written_other m address (word_of v) (is_tagged v) memory (aligned-place_fault m address 16 none) inside
            g before apart);
      }

  pub capability-held : (g : ℕ) (w : CapValue) → IsHeldAt later g w → ((g ≡ address) × (w ≡ v)) ⊎ ((g ≢ address) × IsHeldAt m g w)
  capability-held g w here = elim (cases_eq g address) [
    | inl same ↦ inl (same, held-here w (subst (λ k. IsHeldAt later k w) same here))
    | inr apart ↦ inr (apart, held-elsewhere g apart w here)
  ]

module _ (P : CapValue → Type 0) (m later : Memory) (memory : IsMemory m) (left : LeavesMemoryBeyond P m later) (g : ℕ)
    (alone : (a : ℕ) → g ≤ a → a < g + 16 → Not (IsWritableBy P a)) where
  same-word : has_tag m g ≡ true → word_at later g ≡ word_at m g
  same-word tagged =
      let ram : is_in_ram m g 16 ≡ true = memory.granules_in_ram g tagged in
      let place = in_ram m g 16 ram in
      let low : ram_base ≤ g = place.0 in
      word_at-same m later g (record {
        inside = ram;
        length = left.size;
        bytes = λ b from to. left.bytes b (omega arith) (alone b from to);
      })

  pub still-held : (v : CapValue) → IsHeldAt later g v ↔ IsHeldAt m g v
  still-held v = (
    (λ here.
        let tagged : has_tag m g ≡ true = sym (left.tags g alone) ∙ here.tagged in
        record { tagged = tagged; value = here.value ∙ ap (λ w. value_of w true) (same-word tagged) }),
    (λ here. record {
      tagged = left.tags g alone ∙ here.tagged;
      value = here.value ∙ ap (λ w. value_of w true) (sym (same-word here.tagged));
    }),
  )
