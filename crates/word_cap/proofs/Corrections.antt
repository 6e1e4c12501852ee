-- The base and the top by corrections are those by windows, over plain numbers. An address lies `a` whole blocks, `ah` eighths and
-- a rest past 0; the base `bh` eighths and a rest past the beginning of its block; `k` is how many whole eighths the address
-- lies past the beginning of its window.
use Rattle.std.proofs.Common.{◌≡◌, ℕ, ◌+◌, ◌-◌, ◌*◌, ◌/◌, ◌%◌, ◌^◌, ◌<◌, ◌≤◌, Bool, true, false, ltb, cond, refl, sym, ap, ◌∙◌, inl, inr}
use Rattle.std.proofs.Common.{arith}
use Rattle.std.proofs.lemmas.Bool.{ltb-true, ltb-false, lt-ltb, le-ltb, and_left, cond-false, cases_lt, cases_eq}
use Rattle.std.proofs.Math.Pow.{pow_mono}
use Rattle.std.proofs.lemmas.Nat.{mul-le, mod_below, pow_pos, pow-add, shr_split, shr-shr}
use Rattle.std.specs.Prelude.{ℤ, pos, negsuc, ◌+ℤ◌, ◌-ℤ◌, ◌*ℤ◌, unsigned_abs}
use Rattle.std.proofs.lemmas.Int.{int_rem_euclid_is, ints}
use Rattle.base.specs.Bits.{bit}
use Rattle.cap_bounds.specs.Window.{step_of, decoded_base, decoded_top}
use Rattle.cap_bounds.specs.RemainderLaws.{mod-is, mod-apart}
use Rattle.cap_bounds.specs.PowerLaws.{window-steps, window_fits, mantissa-steps}
use Rattle.cap_bounds.specs.WindowLaws.{place_of, base_at}
use Rattle.cap_bounds.specs.BaseLaws.{decoded_base-low, decoded_base-high, decoded_top-low, decoded_top-high}
use Rattle.cap_bounds.specs.WordLaws.{bit-small}
use Rattle.word_cap.specs.Parts.{modulo, eighth_of, edge_of, high, correction, corrected_base, corrected_top, is_flipped, flipped}

-- the corrections say how the eighths of an address and a base lie in the window's
eighths_by : (ah bh : ℕ) (a_high b_high : Bool) → ah < 8 → bh < 8 → ltb ah ((bh + 7) % 8) ≡ a_high → ltb bh ((bh + 7) % 8) ≡ b_high
    → ah + 1 + 8 * bit a_high ≡ (ah + 9 - bh) % 8 + bh + 8 * bit b_high
eighths_by ah bh true true a b above under = let p = ltb-true _ _ above in let q = ltb-true _ _ under in omega arith
eighths_by ah bh true false a b above under = let p = ltb-true _ _ above in let q = ltb-false _ _ under in omega arith
eighths_by ah bh false true a b above under = let p = ltb-false _ _ above in let q = ltb-true _ _ under in omega arith
eighths_by ah bh false false a b above under = let p = ltb-false _ _ above in let q = ltb-false _ _ under in omega arith

pub eighths : (ah bh : ℕ) → ah < 8 → bh < 8
    → ah + 1 + 8 * bit (ltb ah ((bh + 7) % 8)) ≡ (ah + 9 - bh) % 8 + bh + 8 * bit (ltb bh ((bh + 7) % 8))
eighths ah bh a b = eighths_by ah bh (ltb ah ((bh + 7) % 8)) (ltb bh ((bh + 7) % 8)) a b refl refl

-- the top's mantissa lies L past the base's, counted from the edge
top_from_base_by : (b l : ℕ) (b_high t_high : Bool) → b < 16384 → l < 8192 → ltb (b / 2048 % 8) ((b / 2048 % 8 + 7) % 8) ≡ b_high
    → ltb ((b + l) % 16384 / 2048 % 8) ((b / 2048 % 8 + 7) % 8) ≡ t_high
    → (b + l) % 16384 + 16384 * bit t_high ≡ b + 16384 * bit b_high + l
top_from_base_by b l true true small short under over = let p = ltb-true _ _ under in let q = ltb-true _ _ over in omega arith
top_from_base_by b l true false small short under over = let p = ltb-true _ _ under in let q = ltb-false _ _ over in omega arith
top_from_base_by b l false true small short under over = let p = ltb-false _ _ under in let q = ltb-true _ _ over in omega arith
top_from_base_by b l false false small short under over = let p = ltb-false _ _ under in let q = ltb-false _ _ over in omega arith

pub top_from_base : (b l : ℕ) → b < 16384 → l < 8192
    → (b + l) % 16384 + 16384 * bit (ltb ((b + l) % 16384 / 2048 % 8) ((b / 2048 % 8 + 7) % 8))
    ≡ b + 16384 * bit (ltb (b / 2048 % 8) ((b / 2048 % 8 + 7) % 8)) + l
top_from_base b l small short =
    top_from_base_by b l (ltb (b / 2048 % 8) ((b / 2048 % 8 + 7) % 8))
    (ltb ((b + l) % 16384 / 2048 % 8) ((b / 2048 % 8 + 7) % 8)) small short refl refl

-- a whole number that is a natural less another, at most 1, in multiples
signed_multiple : (z : ℤ) (s h w m k : ℕ) → z +ℤ pos h ≡ pos s → h ≤ 1 → h * w ≤ k
    → z *ℤ pos w +ℤ pos m +ℤ pos k ≡ pos (s * w + m + k - h * w)
signed_multiple (pos x) s h w m k e small fits =
    let same : x + h ≡ s = omega (arith, ints, e) in
    let product : pos x *ℤ pos w ≡ pos (x * w) = refl in
    let total : x * w + m + k ≡ s * w + m + k - h * w = omega (arith, ap (λ n. n * w) same) in
    ap pos total
signed_multiple (negsuc x) s h w m k e small fits =
    let one : h ≡ 1 = omega (arith, ints, e) in
    let first : x ≡ 0 = omega (arith, ints, e) in
    let none : s ≡ 0 = omega (arith, ints, e) in
    let room : 1 * w ≤ k = rw one at fits in
    rw (one, first, none) (omega (arith, ints))

-- and modulo n
signed : (a h1 h0 w m k n : ℕ) → 0 < n → h0 ≤ 1 → h0 * w ≤ k * n
    → modulo ((pos a +ℤ (pos h1 -ℤ pos h0)) *ℤ pos w +ℤ pos m) n ≡ ((a + h1) * w + m + k * n - h0 * w) % n
signed a h1 h0 w m k n positive small fits =
    let sum : pos a +ℤ (pos h1 -ℤ pos h0) +ℤ pos h0 ≡ pos (a + h1) = omega (arith, ints) in
    ap unsigned_abs
    (int_rem_euclid_is _ (pos n) n k ((a + h1) * w + m + k * n - h0 * w) positive refl
    (signed_multiple (pos a +ℤ (pos h1 -ℤ pos h0)) (a + h1) h0 w m (k * n) sum small fits))

-- an address p steps and a rest r past 0 lies k steps and r past the beginning of its window
place_of-eighths : (s p r h k : ℕ) → r < s → h < 8 → k ≡ (p % 8 + 9 - h) % 8 → place_of s h (p * s + r) ≡ k * s + r
place_of-eighths s p r h k rest eighth is =
    let j : ℕ = (p + 9 - h) / 8 in
    let small : k ≤ 7 = omega arith in
    let steps : p + 9 ≡ h + k + 8 * ((p + 9 - h) / 8) = omega arith in
    let others : 8 - h + h ≡ 8 = omega arith in
    mod-is (p * s + r + s + (8 - h) * s) (k * s + r) 0 j (8 * s) (omega (arith, mul-le k s 7 s small (omega arith)))
    (omega (arith, ap (λ n. n * s) steps, ap (λ n. n * s) others))

-- its base by windows is its base by corrections
base_at-corrected : (s p r q h h1 h0 k n : ℕ) → r < s → h < 8 → k ≡ (p % 8 + 9 - h) % 8 → p % 8 + 1 + 8 * h0 ≡ k + h + 8 * h1 → h0 ≤ 1
    → 8 * s ≤ n
    → base_at n s q (p * s + r) (place_of s h (p * s + r)) ≡ ((p / 8 + h1) * (8 * s) + (h * s + q) + 4 * n - h0 * (8 * s)) % n
base_at-corrected s p r q h h1 h0 k n rest eighth is eighths small room =
    let low : k ≤ 7 = omega arith in
    let steps : p + 1 + 8 * h0 ≡ k + h + 8 * (p / 8 + h1) = omega arith in
    ap (λ y. base_at n s q (p * s + r) y) (place_of-eighths s p r h k rest eighth is)
    ∙ mod-apart (p * s + r + n - (k * s + r) + s + q) ((p / 8 + h1) * (8 * s) + (h * s + q) + 4 * n - h0 * (8 * s)) 3 0 n
    (omega (arith, mul-le k s 7 s low (omega arith), mul-le h0 (8 * s) 1 (8 * s) small (omega arith), ap (λ n. n * s) steps))

-- the base and the top of mantissas and an address, a whole number before it goes round
abbrev pub unrounded : ℕ → ℕ → ℕ → ℕ → ℕ → ℕ
unrounded e address h1 h0 m = (address / 2 ^ (e + 14) + h1) * 2 ^ (e + 14) + m * 2 ^ e + 4 * 2 ^ 64 - h0 * 2 ^ (e + 14)

pub high-small : (edge n : ℕ) → high edge n ≤ 1
high-small edge n = omega (arith, bit-small (ltb (eighth_of n) edge))

-- a block is at most 2 ^ 66 addresses
pub block_fits : (e h : ℕ) → e ≤ 52 → h ≤ 1 → h * 2 ^ (e + 14) ≤ 4 * 2 ^ 64
block_fits e h low small = let le : e + 14 ≤ 66 =
    omega arith in omega (arith, pow_mono le, mul-le h (2 ^ (e + 14)) 1 (2 ^ 66) small (pow_mono le))

decoded_base-low_corrected : (e b address : ℕ) → e ≤ 50 → b < 16384
    → decoded_base e b address ≡ unrounded e address (high (edge_of b) b) (high (edge_of b) (address / 2 ^ e)) b % 2 ^ 64
decoded_base-low_corrected e b address low mantissa =
    let s : ℕ = step_of e in
    let p : ℕ = address / step_of e in
    let r : ℕ = address % step_of e in
    let h : ℕ = b / 2048 in
    let eighth : b / 2048 < 8 = omega arith in
    let same : b / 2048 % 8 ≡ b / 2048 = omega arith in
    let split : address / step_of e * step_of e + address % step_of e ≡ address = shr_split address (e + 11) in
    let fourteen : e + 11 + 3 ≡ e + 14 = omega arith in
    let blocks : address / 2 ^ (e + 14) ≡ address / step_of e / 8 = sym (ap (λ i. address / 2 ^ i) fourteen)
    ∙ sym (shr-shr address (e + 11) 3) in
    let eighth_of_address : eighth_of (address / 2 ^ e) ≡ address / step_of e % 8 = ap (λ n. n % 8) (shr-shr address e 11) in
    let q : ℕ = b % 2048 * 2 ^ e in
    let edge : ℕ = (b / 2048 + 7) % 8 in
    let h1 : ℕ = bit (ltb (b / 2048) ((b / 2048 + 7) % 8)) in
    let h0 : ℕ = bit (ltb (address / step_of e % 8) ((b / 2048 + 7) % 8)) in
    let by = eighths (address / step_of e % 8) (b / 2048) (omega arith) eighth in
    let small : bit (ltb (address / step_of e % 8) ((b / 2048 + 7) % 8)) ≤ 1 =
    omega (arith, bit-small (ltb (address / step_of e % 8) ((b / 2048 + 7) % 8))) in
    decoded_base-low e b address low
    ∙ rw (blocks, eighth_of_address, same, mantissa-steps e b, window-steps e)
    (ap (λ a. base_at (2 ^ 64) s q a (place_of s h a)) (sym split)
    ∙ base_at-corrected s p r q h h1 h0 ((address / step_of e % 8 + 9 - b / 2048) % 8) (2 ^ 64)
    (mod_below address s (pow_pos (e + 11))) eighth refl by small (window_fits e low))

decoded_base-high_corrected : (e b address h1 h0 : ℕ) → 50 < e → e ≤ 52 → h0 ≤ 1 → address < 2 ^ 64
    → decoded_base e b address ≡ unrounded e address h1 h0 b % 2 ^ 64
decoded_base-high_corrected e b address h1 h0 above most small fits = elim (cases_eq e 51) [
  | inl first ↦ decoded_base-high e b address above ∙ rw first (omega arith)
  | inr other ↦ let last : e ≡ 52 = omega arith in decoded_base-high e b address above ∙ rw last (omega arith)
]

-- the base by windows is the base by corrections, at every exponent
pub decoded_base-corrected : (e b address : ℕ) → e ≤ 52 → b < 16384 → address < 2 ^ 64
    → decoded_base e b address ≡ unrounded e address (high (edge_of b) b) (high (edge_of b) (address / 2 ^ e)) b % 2 ^ 64
decoded_base-corrected e b address most mantissa fits = elim (cases_lt 50 e) [
  | inl above ↦ decoded_base-high_corrected e b address (high (edge_of b) b) (high (edge_of b) (address / 2 ^ e)) above most
      (high-small (edge_of b) (address / 2 ^ e)) fits
  | inr low ↦ decoded_base-low_corrected e b address low mantissa
]

corrected_base-unrounded : (e address h1 h0 b : ℕ) → e ≤ 52 → h0 ≤ 1
    → corrected_base e address (pos h1 -ℤ pos h0) b ≡ unrounded e address h1 h0 b % 2 ^ 64
unfolding corrected_base
corrected_base-unrounded e address h1 h0 b most small =
    signed (address / 2 ^ (e + 14)) h1 h0 (2 ^ (e + 14)) (b * 2 ^ e) 4 (2 ^ 64) (omega arith) small (block_fits e h0 most small)

pub corrected_base-decoded : (e address b : ℕ) → e ≤ 52 → b < 16384 → address < 2 ^ 64
    → corrected_base e address (correction (edge_of b) e address b) b ≡ decoded_base e b address
corrected_base-decoded e address b most mantissa fits =
    corrected_base-unrounded e address (high (edge_of b) b) (high (edge_of b) (address / 2 ^ e)) b most
    (high-small (edge_of b) (address / 2 ^ e)) ∙ sym (decoded_base-corrected e b address most mantissa fits)

pub corrected_top-unrounded : (e address h1 h0 t : ℕ) → e ≤ 52 → h0 ≤ 1
    → corrected_top e address (pos h1 -ℤ pos h0) t ≡ unrounded e address h1 h0 t % 2 ^ 65
unfolding corrected_top
corrected_top-unrounded e address h1 h0 t most small =
    signed (address / 2 ^ (e + 14)) h1 h0 (2 ^ (e + 14)) (t * 2 ^ e) 2 (2 ^ 65) (omega arith) small (block_fits e h0 most small)

-- mantissas that lie L apart, counted from the edge, give numbers that lie L units apart
apart : (a h1 h0 ht b t l u w k : ℕ) → t + 16384 * ht ≡ b + 16384 * h1 + l → w ≡ u * 16384 → h0 * w ≤ k
    → (a + ht) * w + t * u + k - h0 * w ≡ (a + h1) * w + b * u + k - h0 * w + l * u
apart a h1 h0 ht b t l u w k from block fits =
    omega (arith, ap (λ n. n * u) from, ap (λ n. ht * n) block, ap (λ n. h1 * n) block)

-- before they go round, the top lies L units past the base
unrounded-length : (e address b l : ℕ) → e ≤ 52 → b < 16384 → l < 8192
    → unrounded e address (high (edge_of b) ((b + l) % 16384)) (high (edge_of b) (address / 2 ^ e)) ((b + l) % 16384)
    ≡ unrounded e address (high (edge_of b) b) (high (edge_of b) (address / 2 ^ e)) b + l * 2 ^ e
unrounded-length e address b l most mantissa short =
    apart (address / 2 ^ (e + 14)) (high (edge_of b) b) (high (edge_of b) (address / 2 ^ e)) (high (edge_of b) ((b + l) % 16384)) b
    ((b + l) % 16384) l (2 ^ e) (2 ^ (e + 14))
    (4 * 2 ^ 64) (top_from_base b l mantissa short) (pow-add 2 e 14)
    (block_fits e (high (edge_of b) (address / 2 ^ e)) most (high-small (edge_of b) (address / 2 ^ e)))

-- where a top of 65 bits is less than 2 ^ 63 past its base, modulo 2 ^ 64, its bit 64 is inverted exactly where it is wrong
flip_by : (z n : ℕ) (wrong : Bool) → n < 2 ^ 63 → ltb 1 (((z + n) % 2 ^ 65 / 2 ^ 63 + 4 - z % 2 ^ 64 / 2 ^ 63) % 4) ≡ wrong
    → cond wrong (flipped ((z + n) % 2 ^ 65)) ((z + n) % 2 ^ 65) ≡ z % 2 ^ 64 + n
flip_by z n true small is = let above = ltb-true _ _ is in omega arith
flip_by z n false small is = let below = ltb-false _ _ is in omega arith

flip-low : (e z n base top : ℕ) → e ≤ 50 → n < 2 ^ 63 → base ≡ z % 2 ^ 64 → top ≡ (z + n) % 2 ^ 65
    → cond (is_flipped e base top) (flipped top) top ≡ base + n
unfolding is_flipped
flip-low e z n base top low small from to =
    let below : ltb e 51 ≡ true = lt-ltb e 51 (omega arith) in
    rw (below, from, to) (flip_by z n (ltb 1 (((z + n) % 2 ^ 65 / 2 ^ 63 + 4 - z % 2 ^ 64 / 2 ^ 63) % 4)) small refl)

flip-high : (e base top : ℕ) → 50 < e → cond (is_flipped e base top) (flipped top) top ≡ top
unfolding is_flipped
flip-high e base top above = cond-false _ _ _ (and_left _ _ (le-ltb e 51 (omega arith)))

decoded_top-high_corrected : (e b l address h1 h0 : ℕ) → 50 < e → e ≤ 52 → h0 ≤ 1 → address < 2 ^ 64
    → (unrounded e address h1 h0 b + l * 2 ^ e) % 2 ^ 65 ≡ decoded_top e b l address
decoded_top-high_corrected e b l address h1 h0 above most small fits = elim (cases_eq e 51) [
  | inl first ↦ rw (decoded_top-high e b l address above, first) (omega arith)
  | inr other ↦ let last : e ≡ 52 = omega arith in rw (decoded_top-high e b l address above, last) (omega arith)
]

-- the top by corrections, with bit 64 inverted where it is to be, is the top by windows
pub corrected_top-decoded : (e address b l base top : ℕ) → e ≤ 52 → b < 16384 → l < 8192 → address < 2 ^ 64
    → base ≡ decoded_base e b address
    → top ≡ corrected_top e address (correction (edge_of b) e address ((b + l) % 16384)) ((b + l) % 16384)
    → cond (is_flipped e base top) (flipped top) top ≡ decoded_top e b l address
corrected_top-decoded e address b l base top most mantissa short fits from to =
    let h1 : ℕ = high (edge_of b) b in
    let h0 : ℕ = high (edge_of b) (address / 2 ^ e) in
    let z : ℕ = unrounded e address (high (edge_of b) b) (high (edge_of b) (address / 2 ^ e)) b in
    let length = to
    ∙ corrected_top-unrounded e address (high (edge_of b) ((b + l) % 16384)) h0 ((b + l) % 16384) most
    (high-small (edge_of b) (address / 2 ^ e)) ∙ ap (λ n. n % 2 ^ 65) (unrounded-length e address b l most mantissa short) in
    elim (cases_lt 50 e) [
      | inl above ↦
          flip-high e base top above ∙ length
          ∙ decoded_top-high_corrected e b l address h1 h0 above most (high-small (edge_of b) (address / 2 ^ e)) fits
      | inr low ↦
          let small : l * 2 ^ e < 2 ^ 63 = omega (arith, mul-le l (2 ^ e) 8191 (2 ^ 50) (omega arith) (pow_mono low)) in
          flip-low e z (l * 2 ^ e) base top low small (from ∙ decoded_base-corrected e b address most mantissa fits) length
          ∙ ap (λ n. n + l * 2 ^ e) from
          ∙ sym (decoded_top-low e b l address low)
    ]
