-- Granules counted modulo 2 ^ 64.
use Rattle.std.proofs.Common.{◌≡◌, ℕ, ◌+◌, ◌-◌, ◌*◌, ◌/◌, ◌%◌, ◌^◌, ◌<◌, ◌≤◌, Bool, true, false, ltb, eqb, bit_and, refl, sym, ap, ◌∙◌}
use Rattle.std.proofs.Common.{arith}
use Rattle.std.proofs.lemmas.Nat.{pow-add, pow_pos, shr-shr, shr_le, field_of, and_mask}
use Rattle.std.proofs.lemmas.Bool.{ltb-true, ltb-false}
use Rattle.cap_bounds.specs.Rounding.{granules_up_to, granules_spanned}

-- the granules below the end of a request
pub granules_below_end-is : (e address length rest : ℕ) → e ≤ 52 → rest ≡ 2 ^ (e + 3) - 1
    → ((address + length) % 2 ^ 64 + rest) % 2 ^ 64 / 2 ^ e / 8 ≡ granules_up_to (2 ^ (e + 3)) (address + length) % 2 ^ (61 - e)
granules_below_end-is e address length rest most is =
    let positive = pow_pos (e + 3) in
    let whole : ((address + length) % 2 ^ 64 + rest) % 2 ^ 64 ≡ (address + length + 2 ^ (e + 3) - 1) % 2 ^ 64 = rw is (omega arith) in
    let places : 61 - e + (e + 3) ≡ 64 = omega arith in
    shr-shr (((address + length) % 2 ^ 64 + rest) % 2 ^ 64) e 3
    ∙ ap (λ n. n / 2 ^ (e + 3)) (whole ∙ ap (λ k. (address + length + 2 ^ (e + 3) - 1) % 2 ^ k) (sym places))
    ∙ field_of (address + length + 2 ^ (e + 3) - 1) (61 - e) (e + 3)

-- bit 9 of a number from 512 to 1025 tells whether it is below 1024, whatever is known of it modulo a multiple of 1024
few_by_bit : (n first m k : ℕ) (few : Bool) → m ≡ 1024 * k → 512 ≤ n - first → n - first ≤ 1025 → first < 2 ^ 64
    → ltb (n - first) 1024 ≡ few
    → eqb ((n % m + (2 ^ 64 - first)) % 2 ^ 64 / 512 % 2) 1 ≡ few
few_by_bit n first m k true whole low high fits is =
    let few = ltb-true _ _ is in
    let split : n ≡ n / m * m + n % m = omega arith in
    let blocks : n / m * m ≡ 1024 * (n / m * k) = omega (arith, ap (λ x. n / m * x) whole) in
    let one : (n % m + (2 ^ 64 - first)) % 2 ^ 64 / 512 % 2 ≡ 1 = omega arith in
    rw one refl
few_by_bit n first m k false whole low high fits is =
    let many = ltb-false _ _ is in
    let split : n ≡ n / m * m + n % m = omega arith in
    let blocks : n / m * m ≡ 1024 * (n / m * k) = omega (arith, ap (λ x. n / m * x) whole) in
    let none : (n % m + (2 ^ 64 - first)) % 2 ^ 64 / 512 % 2 ≡ 0 = omega arith in
    rw none refl

pub spans_few-is : (e base top below_end : ℕ) → e ≤ 51 → base < 2 ^ 64 → below_end ≡ granules_up_to (2 ^ (e + 3)) top % 2 ^ (61 - e)
    → 512 ≤ granules_spanned e base top → granules_spanned e base top ≤ 1025
    → eqb (bit_and ((below_end + (2 ^ 64 - base / 2 ^ e / 8)) % 2 ^ 64 / 512) 1) 1 ≡ ltb (granules_spanned e base top) 1024
spans_few-is e base top below_end most fits is low high =
    let n : ℕ = granules_up_to (2 ^ (e + 3)) top in
    let first : ℕ = base / 2 ^ (e + 3) in
    let places : 10 + (51 - e) ≡ 61 - e = omega arith in
    let whole : 2 ^ (61 - e) ≡ 1024 * 2 ^ (51 - e) = sym (ap (λ k. 2 ^ k) places) ∙ pow-add 2 10 (51 - e) in
    let small : base / 2 ^ (e + 3) < 2 ^ 64 = omega (arith, shr_le base (e + 3)) in
    ap (λ n. eqb n 1) (and_mask ((below_end + (2 ^ 64 - base / 2 ^ e / 8)) % 2 ^ 64 / 512) 1)
    ∙ rw (shr-shr base e 3, is)
    (few_by_bit n first (2 ^ (61 - e)) (2 ^ (51 - e)) (ltb (n - first) 1024) whole low high small refl)
