-- Tags lie at granules of RAM alone, so tags that agree there agree everywhere.
use Rattle.std.proofs.Common.{◌≡◌, ℕ, ◌%◌, true, length, sym, ◌∙◌, inl, inr}
use Rattle.std.proofs.lemmas.Bool.{cases_Bool}
use Rattle.tagged_memory.specs.Memory.{Memory, IsMemory, is_in_ram, has_tag}
use Rattle.steps.specs.State.{State}
use Rattle.authority.specs.SameEffectLaws.{in_ram-same}
use Rattle.authority.specs.Worlds.{IsTagReadable}

pub tags-everywhere : (s : State) (m : Memory) → IsMemory s.memory → IsMemory m → length m.bytes ≡ length s.memory.bytes
    → ((granule : ℕ) → granule % 16 ≡ 0 → is_in_ram s.memory granule 16 ≡ true → IsTagReadable s granule
    → has_tag m granule ≡ has_tag s.memory granule)
    → (granule : ℕ) → IsTagReadable s granule → has_tag m granule ≡ has_tag s.memory granule
tags-everywhere s m is other size agree granule readable = elim (cases_Bool (has_tag s.memory granule)) [
  | inl tagged ↦ agree granule (is.granules_aligned granule tagged) (is.granules_in_ram granule tagged) readable
  | inr none ↦ elim (cases_Bool (has_tag m granule)) [
    | inl tagged ↦
        agree granule (other.granules_aligned granule tagged)
        (sym (in_ram-same s.memory m granule 16 size) ∙ other.granules_in_ram granule tagged) readable
    | inr neither ↦ neither ∙ sym none
  ]
]
