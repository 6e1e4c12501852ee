-- The bounds from a multiple of a length's granule.
use Rattle.std.proofs.Common.{◌≡◌, ℕ, ◌+◌, ◌-◌, ◌*◌, ◌/◌, ◌%◌, ◌^◌, ◌<◌, ◌≤◌, sym, ap, ◌∙◌, inl, inr, arith}
use Rattle.std.proofs.Math.Nat.{mul-add-div_right}
use Rattle.std.proofs.lemmas.Nat.{pow-add, pow_pos}
use Rattle.std.proofs.lemmas.Bool.{cases_lt}
use Rattle.cap_bounds.specs.Rounding.{granules_up_to, granules_spanned, length_granule, rounded_base, rounded_top, rounding_exponent}
use Rattle.cap_bounds.specs.Rounding.{rounding_granule}
use Rattle.cap_bounds.specs.RoundingLaws.{rounding_exponent-few, rounding_exponent-high, rounding_exponent-is, rounding_exponent-none}
use Rattle.cap_bounds.specs.RoundingLaws.{rounding_granule-long, rounding_granule-positive, rounding_granule-short}
use Rattle.bounds_text.specs.LengthText.{whole_length}
use Rattle.text_laws.specs.Bounds.{AlignedBlocksAreExact}

-- what lies past a multiple of u takes as many granules as it takes from 0
past_multiple : (u k n : ℕ) → 0 < u → granules_up_to u (k * u + n) ≡ k + granules_up_to u n
past_multiple u k n some =
    let regrouped : k * u + n + u - 1 ≡ k * u + (n + u - 1) = omega arith in
    ap (λ m. m / u) regrouped ∙ mul-add-div_right some k (n + u - 1)

spanned_past : (e k n : ℕ) → granules_spanned e (k * 2 ^ (e + 3)) (k * 2 ^ (e + 3) + n) ≡ granules_spanned e 0 n
spanned_past e k n =
    let u : ℕ = 2 ^ (e + 3) in
    let some : 0 < u = pow_pos (e + 3) in
    let zeros : k * u + 0 ≡ k * u = omega arith in
    let first : k * u / u ≡ k + 0 / u = ap (λ m. m / u) (sym zeros) ∙ mul-add-div_right some k 0 in
    let last : granules_up_to u (k * u + n) ≡ k + granules_up_to u n = past_multiple u k n some in
    omega (arith, first, last)

-- a multiple of 2 ^ (e + 3) is one of each lesser power
lesser : (base e j : ℕ) → j ≤ e → base % 2 ^ (e + 3) ≡ 0 → base ≡ base / 2 ^ (e + 3) * 2 ^ (e - j) * 2 ^ (j + 3)
lesser base e j low whole =
    let places : e + 3 ≡ e - j + (j + 3) = omega arith in
    let power : 2 ^ (e + 3) ≡ 2 ^ (e - j) * 2 ^ (j + 3) = ap (λ i. 2 ^ i) places ∙ pow-add 2 (e - j) (j + 3) in
    let some : 0 < 2 ^ (e + 3) = pow_pos (e + 3) in
    let split : base ≡ base / 2 ^ (e + 3) * 2 ^ (e + 3) = omega (arith, whole, some) in
    let apart : base / 2 ^ (e + 3) * (2 ^ (e - j) * 2 ^ (j + 3)) ≡ base / 2 ^ (e + 3) * 2 ^ (e - j) * 2 ^ (j + 3) = grind arith in
    split ∙ ap (λ p. base / 2 ^ (e + 3) * p) power ∙ apart

spanned-aligned : (base length e j : ℕ) → j ≤ e → base % 2 ^ (e + 3) ≡ 0
    → granules_spanned j base (base + length) ≡ granules_spanned j 0 length
spanned-aligned base length e j low whole =
    let k : ℕ = base / 2 ^ (e + 3) * 2 ^ (e - j) in
    ap (λ b. granules_spanned j b (b + length)) (lesser base e j low whole) ∙ spanned_past j k length

-- so the exponent is that of the same length from 0
exponent-aligned : (base length : ℕ) → length < 2 ^ 64 → base % 2 ^ (rounding_exponent 0 length + 3) ≡ 0
    → rounding_exponent base (base + length) ≡ rounding_exponent 0 length
exponent-aligned base length fits whole =
    let e : ℕ = rounding_exponent 0 length in
    let zeros : length ≡ length - 0 = omega arith in
    let e_low : e ≤ e = omega arith in
    let at : granules_spanned e base (base + length) ≡ granules_spanned e 0 length = spanned-aligned base length e e e_low whole in
    rounding_exponent-is base (base + length) e (rounding_exponent-high 0 length)
    (λ j below.
    let low : j ≤ e = omega arith in
    let same : granules_spanned j base (base + length) ≡ granules_spanned j 0 length = spanned-aligned base length e j low whole in
    omega (arith, same, rounding_exponent-none 0 length j below))
    (λ below. omega (arith, at, rounding_exponent-few 0 length (omega arith) (omega arith)))

granule-aligned : (base length : ℕ) → length < 2 ^ 64 → base % length_granule length ≡ 0
    → rounding_granule base (base + length) ≡ length_granule length
granule-aligned base length fits whole = elim (cases_lt length 4096) [
  | inl short ↦
      rounding_granule-short base (base + length) (omega arith) ∙ sym (rounding_granule-short 0 length (omega arith))
  | inr long ↦
      let granule : length_granule length ≡ 2 ^ (rounding_exponent 0 length + 3) = rounding_granule-long 0 length (omega arith) in
      let aligned : base % 2 ^ (rounding_exponent 0 length + 3) ≡ 0 = ap (λ g. base % g) (sym granule) ∙ whole in
      rounding_granule-long base (base + length) (omega arith)
      ∙ ap (λ e. 2 ^ (e + 3)) (exponent-aligned base length fits aligned) ∙ sym granule
]

-- from a multiple of the granule nothing is added below, and above what is added from 0
pub aligned_blocks : AlignedBlocksAreExact
unfolding rounded_base rounded_top whole_length
aligned_blocks base length base_fits fits whole =
    let g : ℕ = length_granule length in
    let some : 0 < g = rounding_granule-positive 0 length in
    let same : rounding_granule base (base + length) ≡ g = granule-aligned base length fits whole in
    let split : base ≡ base / g * g = omega (arith, whole, some) in
    let blocks : granules_up_to g (base + length) ≡ base / g + granules_up_to g length =
    ap (λ b. granules_up_to g (b + length)) split ∙ past_multiple g (base / g) length some in
    let parted : (base / g + granules_up_to g length) * g ≡ base / g * g + granules_up_to g length * g = grind arith in (
      ap (λ h. base / h * h) same ∙ sym split,
      ap (λ h. granules_up_to h (base + length) * h) same ∙ ap (λ n. n * g) blocks ∙ parted
          ∙ ap (λ b. b + granules_up_to g length * g) (sym split),
    )
