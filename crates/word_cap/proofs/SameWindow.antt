-- A word's bounds stay with another address exactly where its window is that of the word's own.
use Rattle.std.proofs.Common.{◌≡◌, ℕ, ◌+◌, ◌-◌, ◌*◌, ◌/◌, ◌%◌, ◌^◌, ◌<◌, ◌≤◌, eqb, bit_xor, ◌↔◌, IsTrue}
use Rattle.std.proofs.Common.{refl, sym, ap, ◌∙◌, inl, inr, arith}
use Rattle.std.proofs.Math.Nat.{mul_assoc, mod-lt, div-lt_iff_lt-mul, mul-lt-mul_of_pos_right}
use Rattle.std.specs.Int.Bits.{xor_assoc, xor_self, xor_zero_l, xor_zero_r}
use Rattle.std.proofs.lemmas.Nat.{pow-add, pow_pos, shr-shr, xor_block, xor_mod, xor_shr, mul-mod_first}
use Rattle.std.proofs.lemmas.Bool.{cases_lt, eqb-true, eq-eqb}
use Rattle.cap_format.specs.Word.{address_of, ie_of, t_field_of, b_field_of, with_address_of}
use Rattle.cap_bounds.specs.Mantissa.{exponent_of, base_mantissa, low_top_mantissa, top_mantissa, length_mantissa}
use Rattle.cap_bounds.specs.MantissaLaws.{exponent_of-high, base_mantissa-below}
use Rattle.cap_bounds.specs.Window.{decoded_base, decoded_top, base_of_word, top_of_word}
use Rattle.cap_bounds.specs.SetAddress.{KeepsBounds}
use Rattle.cap_bounds.specs.BaseLaws.{decoded_top-low, decoded_top-high, decoded_base-high, decoded_base-below, decoded_base-in_window}
use Rattle.cap_bounds.specs.InsideLaws.{is_in_window-past}
use Rattle.cap_bounds.specs.RemainderLaws.{mod-apart, mod-is}
use Rattle.word_cap.proofs.Windows.{window_number, window_number-base}

-- numbers whose exclusive or is 0 are one
same_from_xor : (x y : ℕ) → bit_xor x y ≡ 0 → x ≡ y
same_from_xor x y none =
    sym (xor_zero_r x) ∙ ap (bit_xor x) (sym (xor_self y)) ∙ sym (xor_assoc x y y) ∙ ap (λ n. bit_xor n y) none ∙ xor_zero_l y

-- an exclusive or that is shifted left, modulo 2 ^ 64, is that of the numbers shifted
xor-shifted : (x y k : ℕ) → bit_xor x y * 2 ^ k % 2 ^ 64 ≡ bit_xor (x * 2 ^ k % 2 ^ 64) (y * 2 ^ k % 2 ^ 64)
xor-shifted x y k =
    let block : bit_xor (x * 2 ^ k + 0) (y * 2 ^ k + 0) ≡ bit_xor x y * 2 ^ k + 0 = xor_block k x y 0 0 (pow_pos k) (pow_pos k) in
    let left : x * 2 ^ k ≡ x * 2 ^ k + 0 = omega arith in
    let right : y * 2 ^ k ≡ y * 2 ^ k + 0 = omega arith in
    let none : bit_xor x y * 2 ^ k + 0 ≡ bit_xor x y * 2 ^ k = omega arith in
    ap (λ n. n % 2 ^ 64) (sym none ∙ sym block ∙ ap (λ n. bit_xor n (y * 2 ^ k + 0)) (sym left) ∙ ap (bit_xor (x * 2 ^ k)) (sym right))
    ∙ xor_mod (x * 2 ^ k) (y * 2 ^ k) 64

mod-add : (x y b : ℕ) → x % 2 ^ 64 ≡ y % 2 ^ 64 → (x + b) % 2 ^ 64 ≡ (y + b) % 2 ^ 64
mod-add x y b e = omega arith

mod-cancel : (x y b : ℕ) → (x + b) % 2 ^ 64 ≡ (y + b) % 2 ^ 64 → x % 2 ^ 64 ≡ y % 2 ^ 64
mod-cancel x y b e = omega arith

-- two numbers of windows give one base exactly where their difference is shifted out
pub same_window : (x y b e : ℕ)
    → (bit_xor x y * 16384 % 2 ^ 64 * 2 ^ e % 2 ^ 64 ≡ 0) ↔ ((x * 2 ^ 14 + b) * 2 ^ e % 2 ^ 64 ≡ (y * 2 ^ 14 + b) * 2 ^ e % 2 ^ 64)
same_window x y b e =
    let power : 2 ^ (14 + e) ≡ 16384 * 2 ^ e = pow-add 2 14 e in
    let whole : bit_xor x y * 16384 % 2 ^ 64 * 2 ^ e % 2 ^ 64 ≡ bit_xor (x * 2 ^ (14 + e) % 2 ^ 64) (y * 2 ^ (14 + e) % 2 ^ 64) =
    mul-mod_first (bit_xor x y * 16384) (2 ^ e) (2 ^ 64)
    ∙ ap (λ n. n % 2 ^ 64) (mul_assoc (bit_xor x y) 16384 (2 ^ e) ∙ ap (λ n. bit_xor x y * n) (sym power))
    ∙ xor-shifted x y (14 + e) in
    let left : (x * 2 ^ 14 + b) * 2 ^ e ≡ x * 2 ^ (14 + e) + b * 2 ^ e = rw power (omega arith) in
    let right : (y * 2 ^ 14 + b) * 2 ^ e ≡ y * 2 ^ (14 + e) + b * 2 ^ e = rw power (omega arith) in
    let same = same_from_xor (x * 2 ^ (14 + e) % 2 ^ 64) (y * 2 ^ (14 + e) % 2 ^ 64) in (
      λ none. rw (left, right) (mod-add (x * 2 ^ (14 + e)) (y * 2 ^ (14 + e)) (b * 2 ^ e) (same (sym whole ∙ none))),
      λ one. whole
          ∙ rw (mod-cancel (x * 2 ^ (14 + e)) (y * 2 ^ (14 + e)) (b * 2 ^ e) (rw (left, right) at one))
          (xor_self (y * 2 ^ (14 + e) % 2 ^ 64)),
    )

-- a word with another address has the same mantissas
mantissas-with_address_of : (word address : ℕ) → address < 2 ^ 64
    → (ie_of (with_address_of word address) ≡ ie_of word) × (t_field_of (with_address_of word address) ≡ t_field_of word)
    × (b_field_of (with_address_of word address) ≡ b_field_of word)
mantissas-with_address_of word address fits =
    let ie : with_address_of word address / 2 ^ 90 % 2 ≡ word / 2 ^ 90 % 2 = omega arith in
    (ap (λ n. eqb n 1) ie, omega arith, omega arith)

base_of_word-with_address_of : (word address : ℕ) → address < 2 ^ 64
    → base_of_word (with_address_of word address) ≡ decoded_base (exponent_of word) (base_mantissa word) address
unfolding base_of_word exponent_of base_mantissa
base_of_word-with_address_of word address fits =
    let same = mantissas-with_address_of word address fits in
    let own : address_of (with_address_of word address) ≡ address = omega arith in
    rw (same.0, same.1, same.2, own) refl

top_of_word-with_address_of : (word address : ℕ) → address < 2 ^ 64
    → top_of_word (with_address_of word address) ≡ decoded_top (exponent_of word) (base_mantissa word) (length_mantissa word) address
unfolding top_of_word exponent_of base_mantissa length_mantissa top_mantissa low_top_mantissa
top_of_word-with_address_of word address fits =
    let same = mantissas-with_address_of word address fits in
    let own : address_of (with_address_of word address) ≡ address = omega arith in
    rw (same.0, same.1, same.2, own) refl

-- the top stays with the base
decoded_top-same : (e b l address own : ℕ) → decoded_base e b address ≡ decoded_base e b own
    → decoded_top e b l address ≡ decoded_top e b l own
decoded_top-same e b l address own same = elim (cases_lt 50 e) [
  | inl above ↦ decoded_top-high e b l address above ∙ sym (decoded_top-high e b l own above)
  | inr low ↦ decoded_top-low e b l address low ∙ ap (λ n. n + l * 2 ^ e) same ∙ sym (decoded_top-low e b l own low)
]

-- a word's bounds stay with another address exactly where the base stays
pub keeps_bounds-base : (word address : ℕ) → address < 2 ^ 64
    → (decoded_base (exponent_of word) (base_mantissa word) (address_of word)
    ≡ decoded_base (exponent_of word) (base_mantissa word) address) ↔ KeepsBounds word address
unfolding base_of_word top_of_word
keeps_bounds-base word address fits = (
  λ same. (
    base_of_word-with_address_of word address fits ∙ sym same,
    top_of_word-with_address_of word address fits
        ∙ decoded_top-same (exponent_of word) (base_mantissa word) (length_mantissa word) address (address_of word) (sym same),
  ),
  λ kept. sym (kept.0) ∙ base_of_word-with_address_of word address fits,
)

-- so the numbers of the windows decide it
pub keeps_bounds-windows : (word address x y e b own : ℕ) → address < 2 ^ 64 → e ≡ exponent_of word → b ≡ base_mantissa word
    → own ≡ address_of word
    → (x * 2 ^ 14 + b) * 2 ^ e % 2 ^ 64 ≡ decoded_base e b own → (y * 2 ^ 14 + b) * 2 ^ e % 2 ^ 64 ≡ decoded_base e b address
    → IsTrue (eqb (bit_xor x y * 16384 % 2 ^ 64 * 2 ^ e % 2 ^ 64) 0) ↔ KeepsBounds word address
keeps_bounds-windows word address x y e b own fits exponent mantissa place from to =
    let windows = same_window x y b e in
    let bases = rw (sym exponent, sym mantissa, sym place) at (keeps_bounds-base word address fits) in (
      λ none. bases.0 (sym from ∙ windows.0 (eqb-true _ 0 none) ∙ to),
      λ kept. eq-eqb _ 0 (windows.1 (from ∙ bases.1 kept ∙ sym to)),
    )

-- ---- a short way

window_number-same : (x y b : ℕ) → x / 2048 ≡ y / 2048 → window_number x b ≡ window_number y b
window_number-same x y b same = omega arith

-- addresses in the same 2048 bytes give one base
decoded_base-near : (e b own address : ℕ) → e ≤ 52 → b < 16384 → own < 2 ^ 64 → address < 2 ^ 64 → bit_xor own address < 2048
    → decoded_base e b own ≡ decoded_base e b address
decoded_base-near e b own address most mantissa own_fits fits near =
    let none : bit_xor (own / 2 ^ 11) (address / 2 ^ 11) ≡ 0 = sym (xor_shr own address 11) ∙ omega arith in
    let same : own / 2 ^ 11 ≡ address / 2 ^ 11 = same_from_xor (own / 2 ^ 11) (address / 2 ^ 11) none in
    let turned : e + 11 ≡ 11 + e = omega arith in
    let eighths : own / 2 ^ e / 2 ^ 11 ≡ address / 2 ^ e / 2 ^ 11 =
    shr-shr own e 11
    ∙ ap (λ k. own / 2 ^ k) turned
    ∙ sym (shr-shr own 11 e)
    ∙ ap (λ n. n / 2 ^ e) same
    ∙ shr-shr address 11 e
    ∙ ap (λ k. address / 2 ^ k) (sym turned)
    ∙ sym (shr-shr address e 11) in
    sym (window_number-base e b own most mantissa own_fits)
    ∙ ap (λ n. (n * 16384 + b) * 2 ^ e % 2 ^ 64) (window_number-same (own / 2 ^ e) (address / 2 ^ e) b eighths)
    ∙ window_number-base e b address most mantissa fits

pub keeps_bounds-near : (word own address : ℕ) → address < 2 ^ 64 → own ≡ address_of word → bit_xor own address < 2048
    → KeepsBounds word address
keeps_bounds-near word own address fits place near =
    let own_fits : own < 2 ^ 64 = omega arith in
    let same =
    decoded_base-near (exponent_of word) (base_mantissa word) own address (exponent_of-high word)
    (base_mantissa-below word) own_fits fits near in
    (keeps_bounds-base word address fits).0 (rw place at same)

-- ---- addresses in the bounds

mod-scaled : (x k u : ℕ) → 0 < k → 0 < u → x % k * u ≡ x * u % (k * u)
mod-scaled x k u some unit =
    let split : x ≡ x % k + x / k * k = omega arith in
    let scaled : x * u ≡ x % k * u + x / k * (k * u) = ap (λ n. n * u) split ∙ omega arith in
    let small : x % k < k = mod-lt x some in
    sym (mod-is (x * u) (x % k * u) 0 (x / k) (k * u) (mul-lt-mul_of_pos_right small unit) (omega (arith, scaled)))

mod-twice : (n m : ℕ) → n % (m * 16384) % 16384 ≡ n % 16384
mod-twice n m =
    let split : n ≡ n % (m * 16384) + n / (m * 16384) * (m * 16384) = omega arith in
    mod-apart (n % (m * 16384)) n (n / (m * 16384) * m) 0 16384 (omega (arith, split, mul_assoc (n / (m * 16384)) m 16384))

-- a base in units of 2 ^ e, whose mantissa is b
pub units_of_base : (w e b : ℕ) → e ≤ 50 → b < 16384
    → ((w * 16384 + b) % 2 ^ (50 - e + 14) * 2 ^ e ≡ (w * 16384 + b) * 2 ^ e % 2 ^ 64) × ((w * 16384 + b) % 2 ^ (50 - e + 14) % 16384 ≡ b)
units_of_base w e b low mantissa =
    let total : 50 - e + 14 + e ≡ 64 = omega arith in
    let space : 2 ^ (50 - e + 14) * 2 ^ e ≡ 2 ^ 64 = sym (pow-add 2 (50 - e + 14) e) ∙ ap (λ n. 2 ^ n) total in
    let own : (w * 16384 + b) % 16384 ≡ b = omega arith in
    let rounds : 2 ^ (50 - e + 14) ≡ 2 ^ (50 - e) * 16384 = pow-add 2 (50 - e) 14 in (
      mod-scaled (w * 16384 + b) (2 ^ (50 - e + 14)) (2 ^ e) (pow_pos (50 - e + 14)) (pow_pos e)
          ∙ ap (λ n. (w * 16384 + b) * 2 ^ e % n) space,
      ap (λ n. (w * 16384 + b) % n % 16384) rounds ∙ mod-twice (w * 16384 + b) (2 ^ (50 - e)) ∙ own,
    )

-- an address less than a length past the base gives the same base
decoded_base-inside : (e b own address : ℕ) → e ≤ 52 → b < 16384 → own < 2 ^ 64 → address < 2 ^ 64
    → (address + (2 ^ 64 - decoded_base e b own)) % 2 ^ 64 / 2 ^ e < 8192 → decoded_base e b own ≡ decoded_base e b address
decoded_base-inside e b own address most mantissa own_fits fits inside = elim (cases_lt 50 e) [
  | inl above ↦ decoded_base-high e b own above ∙ sym (decoded_base-high e b address above)
  | inr low ↦
      let w : ℕ = window_number (own / 2 ^ e) b in
      let units = units_of_base w e b low mantissa in
      let p : ℕ = (w * 16384 + b) % 2 ^ (50 - e + 14) in
      let base : p * 2 ^ e ≡ decoded_base e b own = units.0 ∙ window_number-base e b own most mantissa own_fits in
      let base_fits : p * 2 ^ e < 2 ^ 64 = rw base (decoded_base-below e b own) in
      let near : (address + (2 ^ 64 - p * 2 ^ e)) % 2 ^ 64 / 2 ^ e < 8192 = rw base inside in
      let short : (address + (2 ^ 64 - p * 2 ^ e)) % 2 ^ 64 < 2 ^ (e + 13) =
      omega (arith, (div-lt_iff_lt-mul (pow_pos e)).0 near, pow-add 2 e 13) in
      let holds = is_in_window-past e (p * 2 ^ e) address base_fits fits short in
      let again = decoded_base-in_window e p address most base_fits holds in
      sym (ap (λ n. decoded_base e n address) (sym units.1) ∙ again ∙ base)
]

pub keeps_bounds-inside : (word own address base e b : ℕ) → address < 2 ^ 64 → own ≡ address_of word → e ≡ exponent_of word
    → b ≡ base_mantissa word → base ≡ decoded_base e b own → (address + (2 ^ 64 - base)) % 2 ^ 64 / 2 ^ e < 8192 → KeepsBounds word address
keeps_bounds-inside word own address base e b fits place exponent mantissa is inside =
    let own_fits : own < 2 ^ 64 = omega arith in
    let most : e ≤ 52 = rw exponent (exponent_of-high word) in
    let small : b < 16384 = rw mantissa (base_mantissa-below word) in
    let same = decoded_base-inside e b own address most small own_fits fits (rw is at inside) in
    (keeps_bounds-base word address fits).0 (rw (exponent, mantissa, place) at same)
