-- The rounding exponent of a request, from the leading zeros of its length: that at which the length takes all of 13 bits, or the next.
use Rattle.std.proofs.Common.{◌≡◌, ℕ, suc, ◌+◌, ◌-◌, ◌*◌, ◌/◌, ◌%◌, ◌^◌, ◌<◌, ◌≤◌, zero-add, sym, ap, ◌∙◌, inl, inr, arith}
use Rattle.std.proofs.Math.Nat.{mul-sub, le_of_mul-le-mul_right, lt_of_mul-lt-mul_right}
use Rattle.std.proofs.Math.Pow.{pow_mono}
use Rattle.std.proofs.lemmas.Nat.{leading_top, pow-add, pow_pos, shr-shr, shr_le, shr_split, mod_below, div-mul-add}
use Rattle.std.proofs.lemmas.Bool.{cases_lt}
use Rattle.std.specs.Int.{leading_zeros, w64}
use Rattle.cap_bounds.specs.Rounding.{granules_up_to, granules_spanned, rounding_exponent}
use Rattle.cap_bounds.specs.RoundingLaws.{rounding_exponent-is}

-- a range of k granules or more touches k at least
spanned-low : (g k base top : ℕ) → 0 < g → k * g ≤ top - base → k ≤ granules_up_to g top - base / g
spanned-low g k base top positive long =
    let ends : top ≤ granules_up_to g top * g = omega arith in
    let begins : base / g * g ≤ base = omega arith in
    let wide : k * g ≤ (granules_up_to g top - base / g) * g = omega (arith, mul-sub g (granules_up_to g top) (base / g)) in
    le_of_mul-le-mul_right wide positive

-- a range of less than k granules touches k + 1 at most
spanned-high : (g k base top : ℕ) → 0 < g → base ≤ top → top - base < k * g → granules_up_to g top - base / g ≤ k + 1
spanned-high g k base top positive ordered short =
    let ends : granules_up_to g top * g < top + g = omega arith in
    let begins : base < (base / g + 1) * g = omega arith in
    let narrow : granules_up_to g top * g < (base / g + k + 2) * g = omega arith in
    let less : granules_up_to g top < base / g + k + 2 = lt_of_mul-lt-mul_right g narrow in
    omega arith

-- the exponent at which a length takes all of 13 bits
pub record IsLengthExponent (length e : ℕ) : Type 0 where
  pub low : 2 ^ (e + 12) ≤ length
  pub high : length < 2 ^ (e + 13)
  pub most : e ≤ 51

-- the leading zeros tell it
pub leading_zeros-low : (length : ℕ) → 4096 ≤ length → length < 2 ^ 64 → leading_zeros w64 length ≤ 51
leading_zeros-low length long fits =
    let top = leading_top 64 length (omega arith) fits in
    elim (cases_lt top.0 12) [
      | inl small ↦ let le : suc top.0 ≤ 12 = omega arith in absurd (omega (arith, pow_mono le, top.3))
      | inr large ↦ omega (arith, top.1)
    ]

pub length_exponent-leading : (length : ℕ) → 4096 ≤ length → length < 2 ^ 64 → IsLengthExponent length (51 - leading_zeros w64 length)
length_exponent-leading length long fits =
    let top = leading_top 64 length (omega arith) fits in
    let few = leading_zeros-low length long fits in
    let low : 51 - leading_zeros w64 length + 12 ≡ top.0 = omega (arith, top.1) in
    let high : 51 - leading_zeros w64 length + 13 ≡ suc top.0 = omega (arith, top.1) in
    record {
      low = rw low top.2;
      high = rw high top.3;
      most = omega arith;
    }

-- at it a request touches 512 granules at least and 1025 at most
module _ (base length e : ℕ) (is : IsLengthExponent length e) where
  size : base + length - base ≡ length
  size = omega arith

  pub granules_spanned-low : 512 ≤ granules_spanned e base (base + length)
  granules_spanned-low =
      spanned-low (2 ^ (e + 3)) 512 base (base + length) (pow_pos (e + 3)) (rw size (omega (arith, is.low, pow-add 2 e 12, pow-add 2 e 3)))

  pub granules_spanned-high : granules_spanned e base (base + length) ≤ 1025
  granules_spanned-high =
      spanned-high (2 ^ (e + 3)) 1024 base (base + length) (pow_pos (e + 3)) (omega arith)
      (rw size (omega (arith, is.high, pow-add 2 e 13, pow-add 2 e 3)))

  -- at a smaller one 1024 at least
  granules_spanned-smaller : (j : ℕ) → j < e → 1024 ≤ granules_spanned j base (base + length)
  granules_spanned-smaller j below =
      let le : j + 13 ≤ e + 12 = omega arith in
      spanned-low (2 ^ (j + 3)) 1024 base (base + length) (pow_pos (j + 3))
      (rw size (omega (arith, is.low, pow_mono le, pow-add 2 j 13, pow-add 2 j 3)))

  -- at the next one 513 at most
  granules_spanned-next : granules_spanned (e + 1) base (base + length) ≤ 513
  granules_spanned-next =
      let sum : e + 1 + 3 ≡ e + 4 = omega arith in
      rw sum (spanned-high (2 ^ (e + 4)) 512 base (base + length) (pow_pos (e + 4)) (omega arith)
      (rw size (omega (arith, is.high, pow-add 2 e 13, pow-add 2 e 4))))

  -- where the request touches fewer than 1024, it is the least that serves
  pub rounding_exponent-length : granules_spanned e base (base + length) < 1024 → e ≡ rounding_exponent base (base + length)
  rounding_exponent-length few =
      let most = is.most in
      sym (rounding_exponent-is base (base + length) e (omega arith) granules_spanned-smaller (λ _. few))

  -- and otherwise the next one
  pub rounding_exponent-raised : 1024 ≤ granules_spanned e base (base + length) → e + 1 ≡ rounding_exponent base (base + length)
  rounding_exponent-raised many =
      let most = is.most in
      sym (rounding_exponent-is base (base + length) (e + 1) (omega arith)
      (λ j below. elim (cases_lt j e) [
        | inl smaller ↦ granules_spanned-smaller j smaller
        | inr same ↦ let one : j ≡ e = omega arith in rw one many
      ])
      (λ _. omega (arith, granules_spanned-next)))

-- a range from 0 on, counted from its last address
pub granules_spanned-from_zero : (e length : ℕ) → 0 < length → granules_spanned e 0 length ≡ (length - 1) / 2 ^ e / 8 + 1
granules_spanned-from_zero e length some =
    let g : ℕ = 2 ^ (e + 3) in
    let positive : 0 < 2 ^ (e + 3) = pow_pos (e + 3) in
    let none : 0 / 2 ^ (e + 3) ≡ 0 = omega (arith, shr_le 0 (e + 3)) in
    let whole : length + 2 ^ (e + 3) - 1 ≡ ((length - 1) / 2 ^ (e + 3) + 1) * 2 ^ (e + 3) + (length - 1) % 2 ^ (e + 3) =
    omega (arith, shr_split (length - 1) (e + 3)) in
    let count : granules_up_to (2 ^ (e + 3)) length ≡ (length - 1) / 2 ^ (e + 3) + 1 =
    ap (λ n. n / 2 ^ (e + 3)) whole
    ∙ div-mul-add ((length - 1) / 2 ^ (e + 3) + 1) g ((length - 1) % 2 ^ (e + 3)) (mod_below (length - 1) g positive) in
    let same : granules_up_to (2 ^ (e + 3)) length - 0 / 2 ^ (e + 3) ≡ granules_up_to (2 ^ (e + 3)) length = omega arith in
    same ∙ count ∙ ap (λ n. n + 1) (sym (shr-shr (length - 1) e 3))

-- so a length's exponent
pub rounding_exponent-few : (length e : ℕ) → IsLengthExponent length e → (length - 1) / 2 ^ e / 8 + 1 < 1024
    → e ≡ rounding_exponent 0 length
rounding_exponent-few length e is few =
    let low = is.low in
    let positive = pow_pos (e + 12) in
    let count = granules_spanned-from_zero e length (omega arith) in
    rw (zero-add length) at (rounding_exponent-length 0 length e is (rw (zero-add length, count) few))

pub rounding_exponent-many : (length e : ℕ) → IsLengthExponent length e → 1024 ≤ (length - 1) / 2 ^ e / 8 + 1
    → e + 1 ≡ rounding_exponent 0 length
rounding_exponent-many length e is many =
    let low = is.low in
    let positive = pow_pos (e + 12) in
    let count = granules_spanned-from_zero e length (omega arith) in
    rw (zero-add length) at (rounding_exponent-raised 0 length e is (rw (zero-add length, count) many))
