-- Two memories that are the same at some addresses stay so when the same is stored in both.
use Rattle.std.proofs.Common.{◌≡◌, ℕ, ◌+◌, ◌-◌, ◌<◌, ◌≤◌, Bool, true, eqb, cond, not, ◌&&◌, List, length, sym, ap, ◌∙◌, ◌⊎◌, inl, inr}
use Rattle.std.proofs.Common.{arith}
use Rattle.std.proofs.lemmas.Bool.{cases_lt}
use Rattle.std.specs.Prelude.{slice_index}
use Rattle.byteorder.specs.Endian.{little_bytes}
use Rattle.byteorder.specs.Numbers.{length-bytes_low_first}
use Rattle.base.specs.Ram.{ram_base}
use Rattle.tagged_memory.specs.Memory.{Memory, is_in_ram, has_tag, touches, data_written, capability_written}
use Rattle.tagged_memory.specs.MemoryLaws.{in_ram, length-data_written, byte-data_written, tags-data_written, length-capability_written}
use Rattle.tagged_memory.specs.MemoryLaws.{byte-capability_written, has_tag-capability_written}
use Rattle.tagged_memory.specs.Replaced.{element-new}
use Rattle.authority.specs.SameEffectLaws.{in_ram-same}

-- RAM of the same size, with the same tags, and with the same byte at each address where P holds
pub record AreSameWhere (P : ℕ → Type 0) (m other : Memory) : Type 0 where
  pub size : length other.bytes ≡ length m.bytes
  pub bytes : (a : ℕ) → ram_base ≤ a → P a → slice_index other.bytes (a - ram_base) ≡ slice_index m.bytes (a - ram_base)
  pub tags : (granule : ℕ) → has_tag other granule ≡ has_tag m granule

module _ (P : ℕ → Type 0) (m other : Memory) (same : AreSameWhere P m other) (address : ℕ) where
  there : (size : ℕ) → is_in_ram m address size ≡ true → is_in_ram other address size ≡ true
  there size inside = in_ram-same m other address size same.size ∙ inside

  -- the same bytes
  module _ (new : List ℕ) (inside : is_in_ram m address (length new) ≡ true) where
    byte-new : (x : Memory) → is_in_ram x address (length new) ≡ true → (a : ℕ) → address ≤ a → a < address + length new
        → slice_index (data_written x address new).bytes (a - ram_base) ≡ slice_index new (a - ram_base - (address - ram_base))
    unfolding data_written
    byte-new x within a low high =
        let place = in_ram x address (length new) within in
        let base : ram_base ≤ address = place.0 in
        element-new x.bytes (address - ram_base) new place.1 (a - ram_base) 0 (omega arith) (omega arith)

    byte-far : (a : ℕ) → ram_base ≤ a → P a → (a < address) ⊎ (address + length new ≤ a)
        → slice_index (data_written other address new).bytes (a - ram_base) ≡ slice_index (data_written m address new).bytes (a - ram_base)
    byte-far a low here far =
        byte-data_written other address new (there (length new) inside) a low far ∙ same.bytes a low here
        ∙ sym (byte-data_written m address new inside a low far)

    pub same-stored : AreSameWhere P (data_written m address new) (data_written other address new)
    same-stored = record {
      size = length-data_written other address new (there (length new) inside) ∙ same.size
          ∙ sym (length-data_written m address new inside);
      bytes = λ a low here. elim (cases_lt a address) [
        | inl before ↦ byte-far a low here (inl before)
        | inr above ↦ elim (cases_lt a (address + length new)) [
          | inl under ↦ byte-new other (there (length new) inside) a above under ∙ sym (byte-new m inside a above under)
          | inr past ↦ byte-far a low here (inr past)
        ]
      ];
      tags = λ granule. tags-data_written other address new granule
          ∙ ap (λ tag. tag && not (touches address (length new) granule)) (same.tags granule)
          ∙ sym (tags-data_written m address new granule);
    }

  pub same-number : (size number : ℕ) → is_in_ram m address size ≡ true
      → AreSameWhere P (data_written m address (little_bytes size number)) (data_written other address (little_bytes size number))
  same-number size number inside = same-stored (little_bytes size number) (rw (length-bytes_low_first 0 size number) inside)

  -- the same capability
  module _ (word : ℕ) (tag : Bool) (inside : is_in_ram m address 16 ≡ true) where
    granule-new : (a : ℕ) → address ≤ a → a < address + 16
        → slice_index (capability_written other address word tag).bytes (a - ram_base)
        ≡ slice_index (capability_written m address word tag).bytes (a - ram_base)
    unfolding capability_written
    granule-new a low high =
        let place = in_ram m address 16 inside in
        let place' = in_ram other address 16 (there 16 inside) in
        let base : ram_base ≤ address = place.0 in
        let from : address - ram_base ≤ a - ram_base = omega arith in
        let to : a - ram_base < address - ram_base + 16 = omega arith in
        element-new other.bytes (address - ram_base) _ place'.1 (a - ram_base) 0 from to
        ∙ sym (element-new m.bytes (address - ram_base) _ place.1 (a - ram_base) 0 from to)

    granule-far : (a : ℕ) → ram_base ≤ a → P a → (a < address) ⊎ (address + 16 ≤ a)
        → slice_index (capability_written other address word tag).bytes (a - ram_base)
        ≡ slice_index (capability_written m address word tag).bytes (a - ram_base)
    granule-far a low here far =
        byte-capability_written other address word tag (there 16 inside) a low far ∙ same.bytes a low here
        ∙ sym (byte-capability_written m address word tag inside a low far)

    pub same-value : AreSameWhere P (capability_written m address word tag) (capability_written other address word tag)
    same-value = record {
      size = length-capability_written other address word tag (there 16 inside) ∙ same.size
          ∙ sym (length-capability_written m address word tag inside);
      bytes = λ a low here. elim (cases_lt a address) [
        | inl before ↦ granule-far a low here (inl before)
        | inr above ↦ elim (cases_lt a (address + 16)) [
          | inl under ↦ granule-new a above under
          | inr past ↦ granule-far a low here (inr past)
        ]
      ];
      tags = λ granule. has_tag-capability_written other address word tag granule
          ∙ ap (cond (eqb granule address) tag) (same.tags granule) ∙ sym (has_tag-capability_written m address word tag granule);
    }
