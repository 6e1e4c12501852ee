-- The mantissas of a request as they stand in its word.
use Rattle.std.proofs.Common.{◌≡◌, ℕ, ◌+◌, ◌-◌, ◌*◌, ◌/◌, ◌%◌, ◌^◌, ◌<◌, ◌≤◌, true, false, eqb, bit_and, bit_or, refl, sym, ap, ◌∙◌, inl}
use Rattle.std.proofs.Common.{inr, arith}
use Rattle.std.proofs.Math.Nat.{mod-eq_of_lt, mul-div_left, mod-mod_of_dvd, dvd-mul_left}
use Rattle.std.proofs.lemmas.Nat.{pow-add, pow_pos, field_of, shr-shr, and_mask, or_mod, or_shifted, div-mul-add, le_or_l, le_or_r}
use Rattle.std.proofs.lemmas.Bool.{cases_Bool, eqb-true, eqb-false, eq-eqb, and_from, and_parts, false_from_ne_true, lt-leb, le-leb}
use Rattle.cap_bounds.specs.Record.{has_exponent, encoded_b, encoded_t}
use Rattle.cap_bounds.specs.Rounding.{granules_up_to, rounding_granule, rounding_exponent, rounded_base, rounded_top, is_exact}
use Rattle.cap_bounds.specs.RemainderLaws.{mod-is}
use Rattle.cap_bounds.specs.RoundingLaws.{rounding_exponent-short, rounding_granule-long, rounded_base-short, rounded_top-short}

pub has_exponent-short : (length : ℕ) → length < 4096 → has_exponent length ≡ false
unfolding has_exponent
has_exponent-short length short = lt-leb 4096 length short

pub has_exponent-long : (length : ℕ) → 4096 ≤ length → has_exponent length ≡ true
unfolding has_exponent
has_exponent-long length long = le-leb 4096 length long

-- ---- below 4096 bytes

pub encoded_t-short : (base length : ℕ) → length < 4096
    → bit_and ((base + length) % 2 ^ 64) 4095
    ≡ encoded_t (rounded_top base (base + length) % 2 ^ 65) (rounding_exponent base (base + length)) (has_exponent length)
encoded_t-short base length short =
    let small : base + length - base < 4096 = omega arith in
    and_mask ((base + length) % 2 ^ 64) 12
    ∙ rw (rounded_top-short base (base + length) small, rounding_exponent-short base (base + length) small, has_exponent-short length short)
    (omega arith)

pub encoded_b-short : (base length : ℕ) → length < 4096
    → bit_and base 16383 ≡ encoded_b (rounded_base base (base + length)) (rounding_exponent base (base + length)) (has_exponent length)
encoded_b-short base length short =
    let small : base + length - base < 4096 = omega arith in
    and_mask base 14
    ∙ rw (
      rounded_base-short base (base + length) small,
      rounding_exponent-short base
          (base + length) small,
      has_exponent-short length short,
    ) (omega arith)

pub is_exact-short : (base length : ℕ) → length < 4096 → true ≡ is_exact base (base + length)
unfolding is_exact
is_exact-short base length short =
    let small : base + length - base < 4096 = omega arith in
    rw (
      rounded_base-short base (base + length) small,
      rounded_top-short base (base + length) small,
      eq-eqb base base refl,
      eq-eqb
          (base + length) (base + length) refl,
    ) refl

-- ---- from 4096 bytes on

-- so many whole granules are eight times as many units
units-granules : (n e : ℕ) → n * 2 ^ (e + 3) / 2 ^ e ≡ n * 8
units-granules n e =
    let unit : n * 2 ^ (e + 3) ≡ n * 8 * 2 ^ e = omega (arith, ap (λ k. n * k) (pow-add 2 e 3)) in
    ap (λ k. k / 2 ^ e) unit ∙ mul-div_left (n * 8) (pow_pos e)

-- a top modulo 2 ^ 65 has the same mantissa
mantissa-mod : (top e : ℕ) → e ≤ 52 → top % 2 ^ 65 / 2 ^ e % 4096 ≡ top / 2 ^ e % 4096
mantissa-mod top e most =
    let sum : 65 - e + e ≡ 65 = omega arith in
    let rest : 53 - e + 12 ≡ 65 - e = omega arith in
    let field : top % 2 ^ 65 / 2 ^ e ≡ top / 2 ^ e % 2 ^ (65 - e) = rw sum at (field_of top (65 - e) e) in
    let whole : 2 ^ (65 - e) ≡ 2 ^ (53 - e) * 4096 = sym (ap (λ n. 2 ^ n) rest) ∙ pow-add 2 (53 - e) 12 in
    let divides = dvd-mul_left 4096 (2 ^ (53 - e)) in
    rw (field, whole) (mod-mod_of_dvd 4096 (top / 2 ^ e) divides)

-- nine bits of a number are known modulo a multiple of 512
nine_bits : (n e : ℕ) → e ≤ 52 → n % 2 ^ (61 - e) % 512 ≡ n % 512
nine_bits n e most =
    let rest : 52 - e + 9 ≡ 61 - e = omega arith in
    let whole : 2 ^ (61 - e) ≡ 2 ^ (52 - e) * 512 = sym (ap (λ n. 2 ^ n) rest) ∙ pow-add 2 (52 - e) 9 in
    let divides = dvd-mul_left 512 (2 ^ (52 - e)) in
    rw whole (mod-mod_of_dvd 512 n divides)

-- three bits below nine or more
joined_bits : (x h : ℕ) → x < 2 ^ 12 → h < 8 → bit_or (x * 8 % 2 ^ 64) h ≡ x * 8 + h
joined_bits x h small low =
    let fits : x * 8 < 2 ^ 64 = omega arith in
    rw (mod-eq_of_lt fits) (or_shifted x 3 h low)

pub encoded_t-long : (base length e below_end high : ℕ) → 4096 ≤ length → e ≤ 52 → e ≡ rounding_exponent base (base + length)
    → below_end ≡ granules_up_to (2 ^ (e + 3)) (base + length) % 2 ^ (61 - e) → high ≡ e / 8
    → bit_or (bit_and below_end 511 * 8 % 2 ^ 64) high
    ≡ encoded_t (rounded_top base (base + length) % 2 ^ 65) (rounding_exponent base (base + length)) (has_exponent length)
unfolding rounded_top
encoded_t-long base length e below_end high long most is below halves =
    let n : ℕ = granules_up_to (2 ^ (e + 3)) (base + length) in
    let size : 4096 ≤ base + length - base = omega arith in
    let granule : rounding_granule base (base + length) ≡ 2 ^ (e + 3) = rounding_granule-long base (base + length) size
    ∙ ap (λ k. 2 ^ (k + 3)) (sym is) in
    let mantissa : granules_up_to (2 ^ (e + 3)) (base + length) * 2 ^ (e + 3) % 2 ^ 65 / 2 ^ e % 4096
    ≡ granules_up_to (2 ^ (e + 3)) (base + length) * 8 % 4096 =
    mantissa-mod (n * 2 ^ (e + 3)) e most ∙ ap (λ k. k % 4096) (units-granules n e) in
    let bits : bit_and below_end 511 ≡ granules_up_to (2 ^ (e + 3)) (base + length) % 512 = and_mask below_end 9 ∙ ap (λ k. k % 512) below
    ∙ nine_bits n e most in
    rw (has_exponent-long length long, sym is, granule, mantissa, bits, halves)
    (joined_bits (n % 512) (e / 8) (omega arith) (omega arith) ∙ omega arith)

pub encoded_b-long : (base length e low : ℕ) → 4096 ≤ length → e ≤ 52 → e ≡ rounding_exponent base (base + length) → low ≡ e % 8
    → bit_or (bit_and (base / 2 ^ e / 8) 2047 * 8 % 2 ^ 64) low
    ≡ encoded_b (rounded_base base (base + length)) (rounding_exponent base (base + length)) (has_exponent length)
unfolding rounded_base
encoded_b-long base length e low long most is halves =
    let n : ℕ = base / 2 ^ (e + 3) in
    let size : 4096 ≤ base + length - base = omega arith in
    let granule : rounding_granule base (base + length) ≡ 2 ^ (e + 3) = rounding_granule-long base (base + length) size
    ∙ ap (λ k. 2 ^ (k + 3)) (sym is) in
    let bits : bit_and (base / 2 ^ e / 8) 2047 ≡ base / 2 ^ (e + 3) % 2048 = and_mask (base / 2 ^ e / 8) 11
    ∙ ap (λ k. k % 2048) (shr-shr base e 3) in
    rw (has_exponent-long length long, sym is, granule, units-granules n e, bits, halves)
    (joined_bits (n % 2048) (e % 8) (omega arith) (omega arith) ∙ omega arith)

-- a request is aligned where its address and its length are
aligned_request : (base length g : ℕ) → 0 < g → base % g ≡ 0 → length % g ≡ 0
    → (base / g * g ≡ base) × (granules_up_to g (base + length) * g ≡ base + length)
aligned_request base length g positive first size =
    let whole : base + length + g - 1 ≡ (base / g + length / g) * g + (g - 1) = omega arith in
    let count : granules_up_to g (base + length) ≡ base / g + length / g = ap (λ n. n / g) whole
    ∙ div-mul-add (base / g + length / g) g (g - 1) (omega arith) in
    (omega arith, rw count (omega arith))

-- and only there
request_aligned : (base length g : ℕ) → 0 < g → base / g * g ≡ base → granules_up_to g (base + length) * g ≡ base + length
    → (base % g ≡ 0) × (length % g ≡ 0)
request_aligned base length g positive first last =
    (omega arith, mod-is length 0 (base / g) (granules_up_to g (base + length)) g positive (omega arith))

-- the low bits of an exclusive or inclusive join are none where neither number has any
none_of_both : (x y k : ℕ) → bit_or x y % 2 ^ k ≡ 0 → (x % 2 ^ k ≡ 0) × (y % 2 ^ k ≡ 0)
none_of_both x y k none =
    let parts : bit_or (x % 2 ^ k) (y % 2 ^ k) ≡ 0 = sym (or_mod x y k) ∙ none in
    (omega (arith, le_or_l (x % 2 ^ k) (y % 2 ^ k)), omega (arith, le_or_r (x % 2 ^ k) (y % 2 ^ k)))

both_none : (x y k : ℕ) → x % 2 ^ k ≡ 0 → y % 2 ^ k ≡ 0 → bit_or x y % 2 ^ k ≡ 0
both_none x y k left right = or_mod x y k ∙ rw (left, right) refl

pub is_exact-long : (base length e mask : ℕ) → 4096 ≤ length → e ≡ rounding_exponent base (base + length) → mask ≡ 2 ^ (e + 3) - 1
    → eqb (bit_and (bit_or base length) mask) 0 ≡ is_exact base (base + length)
unfolding is_exact rounded_base rounded_top
is_exact-long base length e mask long is low =
    let g : ℕ = 2 ^ (e + 3) in
    let positive : 0 < 2 ^ (e + 3) = pow_pos (e + 3) in
    let size : 4096 ≤ base + length - base = omega arith in
    let granule : rounding_granule base (base + length) ≡ 2 ^ (e + 3) = rounding_granule-long base (base + length) size
    ∙ ap (λ k. 2 ^ (k + 3)) (sym is) in
    let bits : bit_and (bit_or base length) mask ≡ bit_or base length % 2 ^ (e + 3) = ap (bit_and (bit_or base length)) low
    ∙ and_mask (bit_or base length) (e + 3) in
    rw (bits, granule) (elim (cases_Bool (eqb (bit_or base length % 2 ^ (e + 3)) 0)) [
      | inl none ↦
          let parts = none_of_both base length (e + 3) (eqb-true _ 0 none) in
          let aligned = aligned_request base length (2 ^ (e + 3)) positive parts.0 parts.1 in
          none ∙ sym (and_from _ _ (eq-eqb _ _ aligned.0) (eq-eqb _ _ aligned.1))
      | inr some ↦
          some ∙ sym (false_from_ne_true _ (λ exact.
          let tests = and_parts _ _ exact in
          let parts = request_aligned base length (2 ^ (e + 3)) positive (eqb-true _ _ tests.0) (eqb-true _ _ tests.1) in
          eqb-false _ 0 some (both_none base length (e + 3) parts.0 parts.1)))
    ])
