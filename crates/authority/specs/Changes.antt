-- What a step changes, in two states that show the same where it looks: the same in both.
use Rattle.std.specs.Prelude.{◌≡◌, ℕ, ◌-◌, ◌≤◌, length, slice_index, ◌⊎◌}
use Rattle.base.specs.Ram.{ram_base}
use Rattle.tagged_memory.specs.Memory.{has_tag}
use Rattle.steps.specs.State.{State}

-- a part of two states, before a step and after it: afterwards it is the same in both, or the step leaves it in both
abbrev pub IsChangedAlike : {A : Type 0} → A → A → A → A → Type 0
IsChangedAlike before after other_before other_after = (other_after ≡ after) ⊎ ((after ≡ before) × (other_after ≡ other_before))

-- From s to s' and from t to t' the same is changed: what the two share is shared afterwards, and each byte and tag of RAM, and each of
-- the four special registers that they may not share, is changed alike.
pub record ChangesAlike (s s' t t' : State) : Type 0 where
  pub registers : t'.registers ≡ s'.registers
  pub pcc : t'.scrs.pcc ≡ s'.scrs.pcc
  pub ddc : t'.scrs.ddc ≡ s'.scrs.ddc
  pub csrs : t'.csrs ≡ s'.csrs
  pub devices : t'.devices ≡ s'.devices
  pub size : length t'.memory.bytes ≡ length s'.memory.bytes
  pub bytes :
      (a : ℕ) → ram_base ≤ a
      → IsChangedAlike (slice_index s.memory.bytes (a - ram_base)) (slice_index s'.memory.bytes (a - ram_base))
      (slice_index t.memory.bytes (a - ram_base)) (slice_index t'.memory.bytes (a - ram_base))
  pub tags :
      (granule : ℕ)
      → IsChangedAlike (has_tag s.memory granule) (has_tag s'.memory granule) (has_tag t.memory granule) (has_tag t'.memory granule)
  pub mtcc : IsChangedAlike s.scrs.mtcc s'.scrs.mtcc t.scrs.mtcc t'.scrs.mtcc
  pub mtdc : IsChangedAlike s.scrs.mtdc s'.scrs.mtdc t.scrs.mtdc t'.scrs.mtdc
  pub mscratchc : IsChangedAlike s.scrs.mscratchc s'.scrs.mscratchc t.scrs.mscratchc t'.scrs.mscratchc
  pub mepcc : IsChangedAlike s.scrs.mepcc s'.scrs.mepcc t.scrs.mepcc t'.scrs.mepcc
