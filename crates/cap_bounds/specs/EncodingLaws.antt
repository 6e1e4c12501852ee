-- Bounds that an exponent can encode, and the mantissas that it gives them.
use Rattle.std.proofs.Common.{◌≡◌, ℕ, ◌+◌, ◌-◌, ◌*◌, ◌/◌, ◌%◌, ◌^◌, ◌<◌, ◌≤◌, Bool, true, false, ltb, leb, refl, sym, ap, ◌∙◌, inl, inr}
use Rattle.std.proofs.Common.{arith}
use Rattle.std.proofs.Math.Nat.{mul-div_left, lt_of_mul-lt-mul_right, le_of_mul-le-mul_right}
use Rattle.std.proofs.lemmas.Nat.{pow-add, pow_pos}
use Rattle.std.proofs.lemmas.Bool.{leb-true, leb-false, cases_Bool}
use Rattle.base.specs.Bits.{bit}
use Rattle.cap_format.specs.Word.{address_of, ie_of, t_field_of, b_field_of}
use Rattle.cap_bounds.specs.Mantissa.{exponent_of, base_mantissa, low_top_mantissa, top_mantissa, length_mantissa}
use Rattle.cap_bounds.specs.Window.{decoded_base, base_of_word, top_of_word}
use Rattle.cap_bounds.specs.Record.{Record, IsWellFormed, has_exponent, exponent_for, alignment_for, encoded_b, encoded_t}
use Rattle.cap_bounds.specs.ExponentLaws.{exponent_for-high, exponent_for-holds, exponent_for-short, exponent_for-long}
use Rattle.cap_bounds.specs.MantissaLaws.{length_from_mantissas}
use Rattle.cap_bounds.specs.BaseLaws.{decoded_top-units}
use Rattle.cap_bounds.specs.WordLaws.{bit-small}

-- bounds that an exponent, internal or not, can encode: whole units, a length of 12 bits or of 13 with the highest set
pub record IsEncodable (e : ℕ) (ie : Bool) (base top : ℕ) : Type 0 where
  pub exponent_high : e ≤ 52
  pub clear : ie ≡ false → e ≡ 0
  pub base_fits : base < 2 ^ 64
  pub base_units : base / 2 ^ e * 2 ^ e ≡ base
  pub top_units : top / 2 ^ e * 2 ^ e ≡ top
  pub base_eighths : ie ≡ true → base / 2 ^ e % 8 ≡ 0
  pub top_eighths : ie ≡ true → top / 2 ^ e % 8 ≡ 0
  pub long : base / 2 ^ e + bit ie * 4096 ≤ top / 2 ^ e
  pub short : top / 2 ^ e < base / 2 ^ e + (bit ie + 1) * 4096

-- a multiple of eight units is a whole number of units, in eights
div-units : (x u : ℕ) → 0 < u → x % (u * 8) ≡ 0 → (x / u * u ≡ x) × (x / u % 8 ≡ 0)
div-units x u positive aligned =
    let c : ℕ = x / (u * 8) in
    let whole : x ≡ c * 8 * u = omega arith in
    let quotient : x / u ≡ c * 8 = ap (λ n. n / u) whole ∙ mul-div_left (c * 8) positive in
    (rw quotient (sym whole), rw quotient (omega arith))

-- bounds of fewer than 4096 addresses are encodable without an exponent
pub encodable-clear : (base top : ℕ) → base ≤ top → base < 2 ^ 64 → top - base < 4096 → IsEncodable 0 false base top
encodable-clear base top ordered fits small = record {
  exponent_high = omega arith;
  clear = λ _. refl;
  base_fits = fits;
  base_units = omega arith;
  top_units = omega arith;
  base_eighths = λ bad. cc;
  top_eighths = λ bad. cc;
  long = omega arith;
  short = omega arith;
}

-- aligned bounds of a length of 13 bits are encodable with an exponent
pub encodable-internal : (e base top : ℕ) → e ≤ 52 → base ≤ top → base < 2 ^ 64 → base % 2 ^ (e + 3) ≡ 0 → top % 2 ^ (e + 3) ≡ 0
    → 2 ^ (e + 12) ≤ top - base → top - base < 2 ^ (e + 13) → IsEncodable e true base top
encodable-internal e base top high ordered fits base_aligned top_aligned large small =
    let u : ℕ = 2 ^ e in
    let positive : 0 < 2 ^ e = pow_pos e in
    let b = div-units base u positive (rw (pow-add 2 e 3) at base_aligned) in
    let t = div-units top u positive (rw (pow-add 2 e 3) at top_aligned) in
    let from : (base / u + 4096) * u ≤ top / u * u = omega (arith, pow-add 2 e 12) in
    let below : top / u * u < (base / u + 8192) * u = omega (arith, pow-add 2 e 13) in
    record {
      exponent_high = high;
      clear = λ bad. cc;
      base_fits = fits;
      base_units = b.0;
      top_units = t.0;
      base_eighths = λ _. b.1;
      top_eighths = λ _. t.1;
      long = le_of_mul-le-mul_right from positive;
      short = lt_of_mul-lt-mul_right u below;
    }

-- a well-formed record's bounds are encodable
pub encodable : (r : Record) → IsWellFormed r → IsEncodable (exponent_for (r.top - r.base)) (has_exponent (r.top - r.base)) r.base r.top
unfolding has_exponent alignment_for
encodable r well =
    let n : ℕ = r.top - r.base in
    elim (cases_Bool (leb 4096 n)) [
      | inl long ↦
          let large : 4096 ≤ r.top - r.base = leb-true 4096 n long in
          let ordered = well.ordered in
          let in_space = well.in_space in
          rw long (encodable-internal (exponent_for n) r.base r.top (exponent_for-high n) ordered well.base_fits
          (rw long at well.base_aligned) (rw long at well.top_aligned)
          (exponent_for-long n large) (exponent_for-holds n (omega arith)))
      | inr short ↦
          let small : r.top - r.base < 4096 = leb-false 4096 n short in
          rw (short, exponent_for-short n small) (encodable-clear r.base r.top well.ordered well.base_fits small)
    ]

-- a word whose mantissas are those of encodable bounds
pub record HasMantissas (word e : ℕ) (ie : Bool) (base top : ℕ) : Type 0 where
  pub encodable : IsEncodable e ie base top
  pub internal : ie_of word ≡ ie
  pub t_field : t_field_of word ≡ encoded_t top e ie
  pub b_field : b_field_of word ≡ encoded_b base e ie

-- its exponent is theirs
exponent_of-encoded : (word e : ℕ) (ie : Bool) (base top : ℕ) → HasMantissas word e ie base top → exponent_of word ≡ e
unfolding exponent_of
exponent_of-encoded word e true base top is = let high =
    is.encodable.exponent_high in rw (is.internal, is.t_field, is.b_field) (omega arith)
exponent_of-encoded word e false base top is = rw is.internal (sym (is.encodable.clear refl))

-- B is the base's units modulo 2 ^ 14
base_mantissa-encoded : (word e : ℕ) (ie : Bool) (base top : ℕ) → HasMantissas word e ie base top
    → base_mantissa word ≡ base / 2 ^ e % 16384
unfolding base_mantissa
base_mantissa-encoded word e true base top is = let eighths = is.encodable.base_eighths refl in rw (is.internal, is.b_field) (omega arith)
base_mantissa-encoded word e false base top is = rw is.internal is.b_field

-- the low bits of T are those of the top's units
low_top_mantissa-encoded : (word e : ℕ) (ie : Bool) (base top : ℕ) → HasMantissas word e ie base top
    → low_top_mantissa word ≡ top / 2 ^ e % 4096
unfolding low_top_mantissa
low_top_mantissa-encoded word e true base top is =
    let eighths = is.encodable.top_eighths refl in
    let high = is.encodable.exponent_high in
    rw (is.internal, is.t_field) (omega arith)
low_top_mantissa-encoded word e false base top is = rw is.internal is.t_field

-- L is the length in units
length_mantissa-encoded : (word e : ℕ) (ie : Bool) (base top : ℕ) → HasMantissas word e ie base top
    → length_mantissa word ≡ top / 2 ^ e - base / 2 ^ e
unfolding length_mantissa top_mantissa
length_mantissa-encoded word e ie base top is =
    let p : ℕ = base / 2 ^ e in
    let q : ℕ = top / 2 ^ e in
    rw (base_mantissa-encoded word e ie base top is, low_top_mantissa-encoded word e ie base top is, is.internal)
    (length_from_mantissas p q (bit ie) (ltb (q % 4096) (p % 16384 % 4096)) (bit-small ie) is.encodable.long is.encodable.short refl)

-- the base that it decodes to
pub base_of_word-encoded : (word e : ℕ) (ie : Bool) (base top : ℕ) → HasMantissas word e ie base top
    → base_of_word word ≡ decoded_base e (base / 2 ^ e % 16384) (address_of word)
unfolding base_of_word
base_of_word-encoded word e ie base top is =
    rw (exponent_of-encoded word e ie base top is, base_mantissa-encoded word e ie base top is) refl

-- where it decodes to their base, it decodes to their top modulo 2 ^ 65
pub top_of_word-encoded : (word e : ℕ) (ie : Bool) (base top : ℕ) → HasMantissas word e ie base top → base_of_word word ≡ base
    → top_of_word word ≡ top % 2 ^ 65
unfolding top_of_word
top_of_word-encoded word e ie base top is same =
    let p : ℕ = base / 2 ^ e in
    let l : ℕ = top / 2 ^ e - base / 2 ^ e in
    let long = is.encodable.long in
    let short : l < 8192 = omega (arith, is.encodable.short, bit-small ie) in
    let units = is.encodable.base_units in
    let end : p + l ≡ top / 2 ^ e = omega arith in
    let whole : (p + l) * 2 ^ e ≡ top = rw end is.encodable.top_units in
    let found : decoded_base e (p % 16384) (address_of word) ≡ p * 2 ^ e = sym (base_of_word-encoded word e ie base top is) ∙ same
    ∙ sym units in
    rw (
      exponent_of-encoded word e ie base top is,
      base_mantissa-encoded word e ie base top is,
      length_mantissa-encoded word e ie base top is,
    )
    (decoded_top-units e p l (address_of word) short (rw units is.encodable.base_fits) found ∙ ap (λ n. n % 2 ^ 65) whole)

-- an encoded T has 12 bits
pub encoded_t-below : (top e : ℕ) (ie : Bool) → e ≤ 52 → encoded_t top e ie < 4096
encoded_t-below top e true high = omega arith
encoded_t-below top e false high = omega arith

-- an encoded B has 14 bits
pub encoded_b-below : (base e : ℕ) (ie : Bool) → encoded_b base e ie < 16384
encoded_b-below base e true = omega arith
encoded_b-below base e false = omega arith
