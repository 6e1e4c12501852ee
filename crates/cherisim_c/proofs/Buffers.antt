-- Texts in buffers.
use Rattle.std.proofs.Common.{◌≡◌, ℕ, ◌<◌, List, length, take, sym, ap, ◌∙◌, subst}

module _ (Holds : List ℕ → Type 0) (told shown : List ℕ) (size : ℕ) (is : Holds told) (same : shown ≡ told) where
  -- what holds of a text holds of what a buffer has at its beginning
  pub of_filled : (out : List ℕ) → take size out ≡ shown → Holds (take size out)
  of_filled out held = subst Holds (sym (held ∙ same)) is

  -- and of one that a buffer is too short for
  pub of_long : (old new : List ℕ) → size ≡ length shown → (length old < size) × (new ≡ old)
      → (text : List ℕ) × Holds text × (size ≡ length text) × (length old < size) × (new ≡ old)
  of_long old new long full = (told, is, long ∙ ap length same, full.0, full.1)
