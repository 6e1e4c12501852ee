-- What granules hold after a store.
use Rattle.std.proofs.Common.{◌≡◌, ℕ, List, length, true, None, sym, ap, ◌∙◌, subst, inl, inr, ◌⊎◌}
use Rattle.std.proofs.lemmas.Bool.{cases_eq}
use Rattle.cap_bounds.specs.CapValue.{CapValue, is_tagged, word_of, value_of, IsSound}
use Rattle.cap_bounds.specs.RecordLaws.{value_of-word_of}
use Rattle.cap_bounds.specs.SoundLaws.{word_of-below}
use Rattle.tagged_memory.specs.AccessLaws.{in_ram-place_fault, aligned-place_fault}
use Rattle.tagged_memory.specs.Memory.{Memory, IsMemory, has_tag, word_at, is_in_ram, place_fault, data_written, capability_written}
use Rattle.tagged_memory.specs.MemoryLaws.{tagged-before_data_written, word_at-data_written, has_tag-capability_written_here}
use Rattle.tagged_memory.specs.MemoryLaws.{has_tag-capability_written_other, word_at-capability_written_here}
use Rattle.tagged_memory.specs.MemoryLaws.{word_at-capability_written_other}
use Rattle.authority.specs.Reachable.{IsHeldAt}

-- a write of data leaves no tag where it leaves another word
pub held-data_written : (m : Memory) (address : ℕ) (new : List ℕ) → IsMemory m → is_in_ram m address (length new) ≡ true → (granule : ℕ)
    (v : CapValue) → IsHeldAt (data_written m address new) granule v → IsHeldAt m granule v
held-data_written m address new memory inside granule v here = record {
  tagged = tagged-before_data_written m address new granule here.tagged;
  value = here.value ∙ ap (λ w. value_of w true) (word_at-data_written m address new memory inside granule here.tagged);
}

-- the value of a store, tagged, at its place
pub record IsStoredHere (address : ℕ) (v : CapValue) (granule : ℕ) (w : CapValue) : Type 0 where
  pub place : granule ≡ address
  pub value : w ≡ v
  pub tagged : is_tagged v ≡ true

module _ (m : Memory) (address : ℕ) (v : CapValue) (memory : IsMemory m) (none : place_fault m address 16 ≡ None) (sound : IsSound v) where
  abbrev later : Memory
  later = capability_written m address (word_of v) (is_tagged v)

  inside : is_in_ram m address 16 ≡ true
  inside = in_ram-place_fault m address 16 none

  held-here : (granule : ℕ) → granule ≡ address → (w : CapValue) → IsHeldAt later address w → IsStoredHere address v granule w
  held-here granule place w here =
      let tag : is_tagged v ≡ true = sym (has_tag-capability_written_here m address (word_of v) (is_tagged v)) ∙ here.tagged in
      let word : word_at later address ≡ word_of v =
      word_at-capability_written_here m address (word_of v) (is_tagged v) inside (word_of-below v sound) in
      record {
        place = place;
        value = here.value ∙ ap (λ n. value_of n true) word ∙ ap (value_of (word_of v)) (sym tag) ∙ value_of-word_of v sound;
        tagged = tag;
      }

  held-elsewhere : (granule : ℕ) → (granule ≡ address → ⊥) → (w : CapValue) → IsHeldAt later granule w → IsHeldAt m granule w
  held-elsewhere granule apart w here =
      let before : has_tag m granule ≡ true =
      sym (has_tag-capability_written_other m address (word_of v) (is_tagged v) granule apart) ∙ here.tagged in
      record {
        tagged = before;
        value = here.value
            ∙ ap (λ n. value_of n true)
            (word_at-capability_written_other m address (word_of v) (is_tagged v) memory (aligned-place_fault m address 16 none) inside
            granule before apart);
      }

  -- a value that is stored is read back as itself, and all other granules hold what they held
  pub held-capability_written : (granule : ℕ) (w : CapValue) → IsHeldAt later granule w
      → IsStoredHere address v granule w ⊎ IsHeldAt m granule w
  held-capability_written granule w here = elim (cases_eq granule address) [
    | inl same ↦ inl (held-here granule same w (subst (λ g. IsHeldAt later g w) same here))
    | inr apart ↦ inr (held-elsewhere granule apart w here)
  ]
