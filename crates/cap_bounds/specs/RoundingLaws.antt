-- Rounding out takes the least granule that serves, and the bounds that it gives have a word.
use Rattle.std.proofs.Common.{◌≡◌, ℕ, ◌+◌, ◌-◌, ◌*◌, ◌/◌, ◌%◌, ◌^◌, ◌<◌, ◌≤◌, ltb, refl, sym, ap, ◌∙◌, inl, inr, arith}
use Rattle.std.proofs.Math.Nat.{lt_of_mul-lt-mul_right, mul-mod_left, mul-sub}
use Rattle.std.proofs.Math.Pow.{pow_mono}
use Rattle.std.proofs.lemmas.Nat.{pow-add, pow_pos, mul-le, le-div}
use Rattle.std.proofs.lemmas.Bool.{ltb-true, ltb-false, lt-ltb, le-ltb, le-leb, lt-leb, cases_lt, cond-true, cond-false}
use Rattle.cap_bounds.specs.LeastLaws.{least_up_to-is, least_up_to-high, least_up_to-none, least_up_to-holds}
use Rattle.cap_bounds.specs.Record.{Record, IsWellFormed, has_exponent, exponent_for, alignment_for}
use Rattle.cap_bounds.specs.ExponentLaws.{exponent_for-is, exponent_for-holds, exponent_for-short}
use Rattle.cap_bounds.specs.Rounding.{granules_up_to, granules_spanned, rounding_exponent, rounding_granule, rounded_base, rounded_top}
use Rattle.cap_bounds.specs.Rounding.{RoundingTakesTheLeastGranule}
use Rattle.cap_bounds.specs.SetBounds.{BoundsStayInsideTheAuthority}

-- granules up to a number hold it
granules_up_to-holds : (g n : ℕ) → 0 < g → n ≤ granules_up_to g n * g
granules_up_to-holds g n positive = omega arith

-- and end less than a granule past it
granules_up_to-near : (g n : ℕ) → 0 < g → granules_up_to g n * g < n + g
granules_up_to-near g n positive = omega arith

-- they end no later than a multiple that is no smaller
granules_up_to-multiple : (g n m : ℕ) → 0 < g → n ≤ m * g → granules_up_to g n ≤ m
granules_up_to-multiple g n m positive low =
    let below : granules_up_to g n * g < (m + 1) * g = omega (arith, granules_up_to-near g n positive) in
    let less : granules_up_to g n < m + 1 = lt_of_mul-lt-mul_right g below in
    omega arith

-- where a range touches 1024 granules, it touches at least 512 of twice the size
granules-doubled : (g base top : ℕ) → 0 < g → 1024 ≤ granules_up_to g top - base / g → 512 ≤ granules_up_to (2 * g) top - base / (2 * g)
granules-doubled g base top positive many =
    let n : ℕ = granules_up_to g top in
    let m : ℕ = base / g in
    let double : ℕ = granules_up_to (2 * g) top in
    let half : ℕ = base / (2 * g) in
    let ends : n * g < (2 * double + 1) * g =
    omega (arith, granules_up_to-near g top positive, granules_up_to-holds (2 * g) top (omega arith)) in
    let begins : 2 * half * g < (m + 1) * g = omega arith in
    let last : n < 2 * double + 1 = lt_of_mul-lt-mul_right g ends in
    let first : 2 * half < m + 1 = lt_of_mul-lt-mul_right g begins in
    omega arith

granules_spanned-next : (e base top : ℕ) → 1024 ≤ granules_spanned e base top → 512 ≤ granules_spanned (e + 1) base top
granules_spanned-next e base top many =
    let double : 2 ^ (e + 1 + 3) ≡ 2 * 2 ^ (e + 3) = omega (arith, pow-add 2 (e + 1) 3, pow-add 2 e 1, pow-add 2 e 3) in
    rw double (granules-doubled (2 ^ (e + 3)) base top (pow_pos (e + 3)) many)

-- the exponent is at most 52
pub rounding_exponent-high : (base top : ℕ) → rounding_exponent base top ≤ 52
unfolding rounding_exponent
rounding_exponent-high base top = least_up_to-high 52 (λ e. ltb (granules_spanned e base top) 1024)

-- at a smaller one the range touches 1024 granules or more
pub rounding_exponent-none : (base top j : ℕ) → j < rounding_exponent base top → 1024 ≤ granules_spanned j base top
unfolding rounding_exponent
rounding_exponent-none base top j below = ltb-false _ 1024 (least_up_to-none 52 j (λ e. ltb (granules_spanned e base top) 1024) below)

rounding_exponent-below : (base top : ℕ) → rounding_exponent base top < 52 → granules_spanned (rounding_exponent base top) base top < 1024
unfolding rounding_exponent
rounding_exponent-below base top below = ltb-true _ 1024 (least_up_to-holds 52 (λ e. ltb (granules_spanned e base top) 1024) below)

-- at it the range touches fewer
pub rounding_exponent-few : (base top : ℕ) → base ≤ top → top - base ≤ 2 ^ 64
    → granules_spanned (rounding_exponent base top) base top < 1024
rounding_exponent-few base top ordered small = elim (cases_lt (rounding_exponent base top) 52) [
  | inl below ↦ rounding_exponent-below base top below
  | inr last ↦
      let e : rounding_exponent base top ≡ 52 = omega (arith, rounding_exponent-high base top) in
      rw e (omega arith)
]

-- the exponent by what it is for
pub rounding_exponent-is : (base top e : ℕ) → e ≤ 52 → ((j : ℕ) → j < e → 1024 ≤ granules_spanned j base top)
    → (e < 52 → granules_spanned e base top < 1024)
    → rounding_exponent base top ≡ e
unfolding rounding_exponent
rounding_exponent-is base top e high many few =
    least_up_to-is 52 e (λ e. ltb (granules_spanned e base top) 1024) high (λ j below. le-ltb _ 1024 (many j below))
    (λ below. lt-ltb _ 1024 (few below))

-- it is no greater than one at which the range touches fewer than 1024 granules
pub rounding_exponent-least : (base top e : ℕ) → granules_spanned e base top < 1024 → rounding_exponent base top ≤ e
rounding_exponent-least base top e few = elim (cases_lt e (rounding_exponent base top)) [
  | inl below ↦ absurd (omega (arith, rounding_exponent-none base top e below))
  | inr high ↦ high
]

-- a range below 4096 bytes has exponent 0
pub rounding_exponent-short : (base top : ℕ) → top - base < 4096 → rounding_exponent base top ≡ 0
rounding_exponent-short base top short =
    let few : granules_spanned 0 base top < 1024 = omega arith in
    omega (arith, rounding_exponent-least base top 0 few)

-- and stays as it is
pub rounding_granule-short : (base top : ℕ) → top - base < 4096 → rounding_granule base top ≡ 1
unfolding rounding_granule
rounding_granule-short base top short = cond-true _ _ _ (lt-ltb (top - base) 4096 short)

pub rounding_granule-long : (base top : ℕ) → 4096 ≤ top - base → rounding_granule base top ≡ 2 ^ (rounding_exponent base top + 3)
unfolding rounding_granule
rounding_granule-long base top long = cond-false _ _ _ (le-ltb (top - base) 4096 long)

-- the exponent of a longer one is the least that serves
pub rounding_exponent-long : RoundingTakesTheLeastGranule
rounding_exponent-long base length fits short long = (
  record {
    high = rounding_exponent-high base (base + length);
    few = rounding_exponent-few base (base + length) (omega arith) (omega arith);
    least = rounding_exponent-none base (base + length);
  },
  rounding_granule-long base (base + length) (omega arith),
)

pub rounding_granule-positive : (base top : ℕ) → 0 < rounding_granule base top
rounding_granule-positive base top = elim (cases_lt (top - base) 4096) [
  | inl short ↦ rw (rounding_granule-short base top short) (omega arith)
  | inr long ↦ rw (rounding_granule-long base top long) (pow_pos (rounding_exponent base top + 3))
]

-- the rounded bounds hold the range
pub rounded_base-low : (base top : ℕ) → rounded_base base top ≤ base
unfolding rounded_base
rounded_base-low base top = omega (arith, rounding_granule-positive base top)

pub rounded_top-high : (base top : ℕ) → top ≤ rounded_top base top
unfolding rounded_top
rounded_top-high base top = granules_up_to-holds (rounding_granule base top) top (rounding_granule-positive base top)

-- a range below 4096 bytes keeps its bounds
pub rounded_base-short : (base top : ℕ) → top - base < 4096 → rounded_base base top ≡ base
unfolding rounded_base
rounded_base-short base top short = rw (rounding_granule-short base top short) (omega arith)

pub rounded_top-short : (base top : ℕ) → top - base < 4096 → rounded_top base top ≡ top
unfolding rounded_top
rounded_top-short base top short = rw (rounding_granule-short base top short) (omega arith)

-- the rounded bounds are multiples of the granule
pub rounded_base-mod : (base top : ℕ) → rounded_base base top % rounding_granule base top ≡ 0
unfolding rounded_base
rounded_base-mod base top = mul-mod_left _ _

pub rounded_top-mod : (base top : ℕ) → rounded_top base top % rounding_granule base top ≡ 0
unfolding rounded_top
rounded_top-mod base top = mul-mod_left _ _

-- a longer range touches at least 512 granules
granules_spanned-long : (base top : ℕ) → 4096 ≤ top - base → 512 ≤ granules_spanned (rounding_exponent base top) base top
granules_spanned-long base top long = elim (cases_lt 0 (rounding_exponent base top)) [
  | inl some ↦
      let before : rounding_exponent base top - 1 < rounding_exponent base top = omega arith in
      let same : rounding_exponent base top - 1 + 1 ≡ rounding_exponent base top = omega arith in
      rw same at
      (granules_spanned-next (rounding_exponent base top - 1) base top
      (rounding_exponent-none base top (rounding_exponent base top - 1) before))
  | inr none ↦
      let zero : rounding_exponent base top ≡ 0 = omega arith in
      rw zero (omega arith)
]

-- so many granules are the rounded length
rounded_length-granules : (base top : ℕ) → 4096 ≤ top - base
    → rounded_top base top - rounded_base base top
    ≡ granules_spanned (rounding_exponent base top) base top * 2 ^ (rounding_exponent base top + 3)
unfolding rounded_base rounded_top
rounded_length-granules base top long =
    let g : ℕ = 2 ^ (rounding_exponent base top + 3) in
    rw (rounding_granule-long base top long) (omega (arith, mul-sub g (granules_up_to g top) (base / g)))

-- a range from 4096 bytes on is rounded out to a length that takes all the 13 bits of its exponent
pub rounded_length-low : (base top : ℕ) → 4096 ≤ top - base
    → 2 ^ (rounding_exponent base top + 12) ≤ rounded_top base top - rounded_base base top
rounded_length-low base top long =
    let e : ℕ = rounding_exponent base top in
    rw (rounded_length-granules base top long)
    (omega (
      arith,
      pow-add 2 e 12,
      pow-add 2 e 3,
      mul-le 512 (2 ^ (e + 3)) (granules_spanned e base top) (2 ^ (e + 3))
          (granules_spanned-long base top long) (omega arith),
    ))

pub rounded_length-below : (base top : ℕ) → base ≤ top → top - base ≤ 2 ^ 64 → 4096 ≤ top - base
    → rounded_top base top - rounded_base base top < 2 ^ (rounding_exponent base top + 13)
rounded_length-below base top ordered small long =
    let e : ℕ = rounding_exponent base top in
    let few : granules_spanned e base top ≤ 1023 = omega (arith, rounding_exponent-few base top ordered small) in
    rw (rounded_length-granules base top long)
    (omega (
      arith,
      pow-add 2 e 13,
      pow-add 2 e 3,
      pow_pos e,
      mul-le (granules_spanned e base top) (2 ^ (e + 3)) 1023 (2 ^ (e + 3)) few
          (omega arith),
    ))

-- the rounded length has an exponent where the range has one
pub has_exponent-rounded : (base top : ℕ) → has_exponent (rounded_top base top - rounded_base base top) ≡ has_exponent (top - base)
unfolding has_exponent
has_exponent-rounded base top = elim (cases_lt (top - base) 4096) [
  | inl short ↦ rw (rounded_base-short base top short, rounded_top-short base top short) refl
  | inr long ↦
      let longer : 4096 ≤ rounded_top base top - rounded_base base top =
      omega (arith, rounded_base-low base top, rounded_top-high base top) in
      le-leb 4096 _ longer ∙ sym (le-leb 4096 (top - base) long)
]

-- the rounded length's exponent is the one that it was rounded out for
pub exponent_for-rounded : (base top : ℕ) → base ≤ top → top - base ≤ 2 ^ 64
    → exponent_for (rounded_top base top - rounded_base base top) ≡ rounding_exponent base top
exponent_for-rounded base top ordered small = elim (cases_lt (top - base) 4096) [
  | inl short ↦
      rw (rounded_base-short base top short, rounded_top-short base top short)
      (exponent_for-short (top - base) short ∙ sym (rounding_exponent-short base top short))
  | inr long ↦
      let e : ℕ = rounding_exponent base top in
      exponent_for-is _ e (rounding_exponent-high base top)
      (λ j below. let le : j + 13 ≤ e + 12 = omega arith in omega (arith, pow_mono le, rounded_length-low base top long))
      (λ _. rounded_length-below base top ordered small long)
]

-- its alignment is the granule
pub alignment_for-rounded : (base top : ℕ) → base ≤ top → top - base ≤ 2 ^ 64
    → alignment_for (rounded_top base top - rounded_base base top) ≡ rounding_granule base top
unfolding alignment_for has_exponent
alignment_for-rounded base top ordered small = elim (cases_lt (top - base) 4096) [
  | inl short ↦
      rw (rounded_base-short base top short, rounded_top-short base top short)
      (cond-false _ _ _ (lt-leb 4096 (top - base) short) ∙ sym (rounding_granule-short base top short))
  | inr long ↦
      let longer : 4096 ≤ rounded_top base top - rounded_base base top =
      omega (arith, rounded_base-low base top, rounded_top-high base top) in
      cond-true _ _ _ (le-leb 4096 _ longer) ∙ ap (λ e. 2 ^ (e + 3)) (exponent_for-rounded base top ordered small)
      ∙ sym (rounding_granule-long base top long)
]

-- a range in whole granules of a size touches no more of them than lie between
granules-inside : (g p q base top : ℕ) → 0 < g → p * g ≤ base → top ≤ q * g → granules_up_to g top - base / g ≤ q - p
granules-inside g p q base top positive low high =
    let from : p ≤ base / g = le-div p base g positive low in
    omega (arith, granules_up_to-multiple g top q positive high)

-- rounding to a granule stays inside bounds of multiples of it
rounded-inside : (g p q base top : ℕ) → 0 < g → p * g ≤ base → top ≤ q * g → (p * g ≤ base / g * g) × (granules_up_to g top * g ≤ q * g)
rounded-inside g p q base top positive low high =
    let from : p ≤ base / g = le-div p base g positive low in
    let to : granules_up_to g top ≤ q = granules_up_to-multiple g top q positive high in
    (mul-le p g (base / g) g from (omega arith), mul-le (granules_up_to g top) g q g to (omega arith))

-- The least granule is no larger than the granule of a capability that holds the range.
rounding_exponent-inside : (r : Record) → IsWellFormed r → (base top : ℕ) → 4096 ≤ r.top - r.base → r.base ≤ base → top ≤ r.top
    → rounding_exponent base top ≤ exponent_for (r.top - r.base)
unfolding alignment_for has_exponent
rounding_exponent-inside r well base top long low high =
    let n : ℕ = r.top - r.base in
    let e : ℕ = exponent_for (r.top - r.base) in
    let g : ℕ = 2 ^ (e + 3) in
    let positive : 0 < g = pow_pos (e + 3) in
    let wide = le-leb 4096 n long in
    let base_aligned : r.base % g ≡ 0 = rw wide at well.base_aligned in
    let top_aligned : r.top % g ≡ 0 = rw wide at well.top_aligned in
    let in_space = well.in_space in
    let p : ℕ = r.base / g in
    let q : ℕ = r.top / g in
    let first : p * g ≡ r.base = omega arith in
    let last : q * g ≡ r.top = omega arith in
    let short : n < 2 ^ (e + 13) = exponent_for-holds n (omega arith) in
    let below : (q - p) * g < 1024 * g = omega (arith, mul-sub g q p, pow-add 2 e 13, pow-add 2 e 3) in
    let few : q - p < 1024 = lt_of_mul-lt-mul_right g below in
    rounding_exponent-least base top e (omega (arith, granules-inside g p q base top positive (omega arith) (omega arith)))

-- Rounding a range out stays inside the bounds of a capability that holds it.
pub rounded-inside_record : BoundsStayInsideTheAuthority
unfolding alignment_for has_exponent rounded_base rounded_top
rounded-inside_record r base top well ordered low high = elim (cases_lt (top - base) 4096) [
  | inl short ↦ rw (rounding_granule-short base top short) (omega arith, omega arith)
  | inr long ↦
      let n : ℕ = r.top - r.base in
      let e : ℕ = rounding_exponent base top in
      let wider : 4096 ≤ r.top - r.base = omega arith in
      let small : e ≤ exponent_for (r.top - r.base) = rounding_exponent-inside r well base top wider low high in
      let g : ℕ = 2 ^ (e + 3) in
      let k : ℕ = 2 ^ (exponent_for (r.top - r.base) - e) in
      let sum : exponent_for (r.top - r.base) - e + (e + 3) ≡ exponent_for (r.top - r.base) + 3 = omega arith in
      let whole : 2 ^ (exponent_for (r.top - r.base) + 3) ≡ k * g = sym (ap (λ i. 2 ^ i) sum)
      ∙ pow-add 2 (exponent_for (r.top - r.base) - e) (e + 3) in
      let wide = le-leb 4096 n wider in
      let base_aligned : r.base % (k * g) ≡ 0 = rw whole at (rw wide at well.base_aligned) in
      let top_aligned : r.top % (k * g) ≡ 0 = rw whole at (rw wide at well.top_aligned) in
      let first : r.base / (k * g) * k * g ≡ r.base = omega arith in
      let last : r.top / (k * g) * k * g ≡ r.top = omega arith in
      let inside = rounded-inside g (r.base / (k * g) * k) (r.top / (k * g) * k) base top (pow_pos (e + 3)) (omega arith) (omega arith) in
      rw (rounding_granule-long base top long) (rw first at inside.0, rw last at inside.1)
]
