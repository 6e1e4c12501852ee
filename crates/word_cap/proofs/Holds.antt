-- Whether bounds hold a range, told by the length in place of the top.
use Rattle.std.proofs.Common.{◌≡◌, ℕ, ◌+◌, ◌-◌, ◌*◌, ◌%◌, ◌^◌, ◌<◌, ◌≤◌, ◌&&◌, false, leb, inl, inr, refl, ◌∙◌, arith}
use Rattle.std.proofs.Math.Nat.{mod-eq_of_lt}
use Rattle.std.proofs.Math.Pow.{pow_mono}
use Rattle.std.proofs.lemmas.Bool.{cases_lt, le-leb, lt-leb}
use Rattle.std.proofs.lemmas.Nat.{mul-le}
use Rattle.cap_format.specs.Word.{address_of}
use Rattle.cap_bounds.specs.Mantissa.{exponent_of, base_mantissa, length_mantissa}
use Rattle.cap_bounds.specs.Window.{decoded_base, decoded_top, base_of_word, top_of_word}
use Rattle.cap_bounds.specs.BaseLaws.{decoded_top-low}

pub holds-below : (base address end top : ℕ) → address < base → false ≡ (leb base address && leb end top)
holds-below base address end top below = rw (lt-leb base address below) refl

module _ (base address size length top : ℕ) (whole : top ≡ base + length) (low : base ≤ address) where
  pub holds-longer : length < size → false ≡ (leb base address && leb (address + size) top)
  holds-longer longer = rw (le-leb base address low, lt-leb (address + size) top (omega arith)) refl

  pub holds-rest : size ≤ length → leb (address - base) (length - size) ≡ (leb base address && leb (address + size) top)
  holds-rest fits = elim (cases_lt (length - size) (address - base)) [
    | inl past ↦
        rw (le-leb base address low, lt-leb (address + size) top (omega arith), lt-leb (address - base) (length - size) past) refl
    | inr inside ↦
        rw (le-leb base address low, le-leb (address + size) top (omega arith), le-leb (address - base) (length - size) inside) refl
  ]

module _ (word own e b l base : ℕ) (exponent : e ≡ exponent_of word) (mantissa : b ≡ base_mantissa word) (length : l ≡ length_mantissa word)
    (place : own ≡ address_of word) (is : base ≡ decoded_base e b own) where
  pub base-decoded : base ≡ base_of_word word
  unfolding base_of_word
  base-decoded = rw (exponent, mantissa, place) at is

  pub top-decoded : e ≤ 50 → l < 8192 → top_of_word word ≡ base + l * 2 ^ e % 2 ^ 64
  unfolding top_of_word
  top-decoded low short =
      let unit = pow_mono low in
      let fits : l * 2 ^ e < 2 ^ 64 = omega (arith, mul-le l (2 ^ e) 8191 (2 ^ 50) (omega arith) unit) in
      let found : decoded_top e b l own ≡ base + l * 2 ^ e % 2 ^ 64 = decoded_top-low e b l own low ∙ rw (mod-eq_of_lt fits, is) refl in
      rw (← exponent, ← mantissa, ← length, ← place) found
