-- The base that mantissas and an address give, by its window.
use Rattle.std.proofs.Common.{◌≡◌, ℕ, ◌+◌, ◌-◌, ◌*◌, ◌/◌, ◌%◌, ◌^◌, ◌<◌, ◌≤◌, true, leb, ltb, inl, inr, refl, sym, ◌∙◌, arith}
use Rattle.std.proofs.Math.Nat.{mod-lt, mod-eq_of_lt}
use Rattle.std.proofs.Math.Pow.{pow_mono}
use Rattle.std.proofs.lemmas.Nat.{pow_pos, mul-le, div-mul-add}
use Rattle.std.proofs.lemmas.Bool.{le-leb, lt-leb, lt-ltb, or_left, or_right, or_cases, ltb-true, leb-true, cases_lt, cases_order}
use Rattle.std.proofs.lemmas.Bool.{cond-true, cond-false, cond_both}
use Rattle.cap_bounds.specs.Window.{step_of, decoded_base, decoded_top, place_in_window, IsBase, BaseIsByWindows}
use Rattle.cap_bounds.specs.Record.{is_in_window}
use Rattle.cap_bounds.specs.WindowLaws.{place_of, base_at, distance_of, place_of-below, place_of-near, base_at-distance, base_at-unique}
use Rattle.cap_bounds.specs.WindowLaws.{base_at-congruent, distance_of-place, distance_of-own_base, start-mod, start-holds_address}
use Rattle.cap_bounds.specs.WindowLaws.{start-holds_base}
use Rattle.cap_bounds.specs.PowerLaws.{window-steps, space-windows, window_fits, mantissa-steps, rest_below_step}

-- how far the base of a mantissa lies past a step
abbrev rest_of : ℕ → ℕ → ℕ
rest_of e b = b % 2048 * 2 ^ e

-- up to exponent 50 the base is that of the address's place
pub decoded_base-low : (e b address : ℕ) → e ≤ 50
    → decoded_base e b address ≡ base_at (2 ^ 64) (step_of e) (rest_of e b) address (place_of (step_of e) (b / 2048) address)
unfolding decoded_base place_in_window
decoded_base-low e b address low = cond-true _ _ _ (le-leb e 50 low)

-- above, it is the mantissa's own
pub decoded_base-high : (e b address : ℕ) → 50 < e → decoded_base e b address ≡ b * 2 ^ e % 2 ^ 64
unfolding decoded_base place_in_window
decoded_base-high e b address high = cond-false _ _ _ (lt-leb e 50 high)

-- a base by windows is the decoded one
IsBase-unique : (e b address base : ℕ) → e ≤ 50 → b < 2 ^ 14 → IsBase e b address base → base ≡ decoded_base e b address
IsBase-unique e b address base low mantissa is =
    let steps = window-steps e in
    let congruent : base % (8 * step_of e) ≡ (b / 2048 * step_of e + rest_of e b) % (8 * step_of e) =
    rw (← (mantissa-steps e b)) (rw steps at is.congruent) in
    let begins = rw steps at is.window.begins in
    sym (decoded_base-low e b address low
    ∙ base_at-unique (step_of e) (2 ^ (50 - e)) (2 ^ 64) (space-windows e low) address (b / 2048) (rest_of e b) base is.start
    (omega arith) (rest_below_step e b) is.in_space is.window.in_space begins congruent (rw steps at is.holds_address)
    (rw steps at is.holds_base))

-- the decoded base is one by windows
IsBase-decoded : (e b address base : ℕ) → e ≤ 50 → b < 2 ^ 14 → address < 2 ^ 64 → base ≡ decoded_base e b address → IsBase e b address base
IsBase-decoded e b address base low mantissa fits same =
    let s : ℕ = step_of e in
    let M : ℕ = 2 ^ (50 - e) in
    let h : ℕ = b / 2048 in
    let q : ℕ = rest_of e b in
    let y : ℕ = place_of s h address in
    let at_place = same ∙ decoded_base-low e b address low in
    let positive : 0 < 2 ^ (e + 11) = pow_pos (e + 11) in
    let inside : y < 8 * s = place_of-below s h address positive in
    let room : 8 * s ≤ 2 ^ 64 = window_fits e low in
    let rest : q < s = rest_below_step e b in
    let space = space-windows e low in
    record {
      in_space = rw at_place (mod-lt (address + 2 ^ 64 - y + s + q) (omega arith));
      congruent =
          rw (window-steps e, mantissa-steps e b, at_place) (base_at-congruent s M (2 ^ 64) space address h q (omega arith) positive room);
      start = (address + 2 ^ 64 - y) % 2 ^ 64;
      window = record {
        in_space = mod-lt (address + 2 ^ 64 - y) (omega arith);
        begins = rw (window-steps e) (start-mod s M (2 ^ 64) space address h (omega arith) positive room);
      };
      holds_address = rw (window-steps e, start-holds_address address y (2 ^ 64) (omega arith)) inside;
      holds_base = rw (window-steps e, at_place, start-holds_base address y s q (2 ^ 64) (omega arith) (omega arith)) (omega arith);
    }

-- one number is a base by windows, and it is the decoded one
pub base_by_windows : BaseIsByWindows
base_by_windows e b address base low mantissa fits =
    (IsBase-unique e b address base low mantissa, IsBase-decoded e b address base low mantissa fits)

-- a decoded base is an address
pub decoded_base-below : (e b address : ℕ) → decoded_base e b address < 2 ^ 64
unfolding decoded_base
decoded_base-below e b address =
    cond_both (leb e 50) ((address + 2 ^ 64 - place_in_window e b address + step_of e + rest_of e b) % 2 ^ 64) (b * 2 ^ e % 2 ^ 64)
    (λ n. n < 2 ^ 64)
    (λ _. mod-lt _ (omega arith)) (λ _. mod-lt _ (omega arith))

-- up to exponent 50 the top is the length past the base
pub decoded_top-low : (e b l address : ℕ) → e ≤ 50 → decoded_top e b l address ≡ decoded_base e b address + l * 2 ^ e
unfolding decoded_top
decoded_top-low e b l address low = cond-true _ _ _ (le-leb e 50 low)

-- above, it is the mantissas' own
pub decoded_top-high : (e b l address : ℕ) → 50 < e → decoded_top e b l address ≡ (b + l) * 2 ^ e % 2 ^ 65
unfolding decoded_top
decoded_top-high e b l address high = cond-false _ _ _ (lt-leb e 50 high)

-- a decoded top has 65 bits
pub decoded_top-below : (e b l address : ℕ) → l < 16384 → decoded_top e b l address < 2 ^ 65
decoded_top-below e b l address small = elim (cases_lt 50 e) [
  | inl high ↦ rw (decoded_top-high e b l address high) (mod-lt ((b + l) * 2 ^ e) (omega arith))
  | inr low ↦
      let unit = pow_mono low in
      rw (decoded_top-low e b l address low)
      (omega (arith, decoded_base-below e b address, mul-le l (2 ^ e) 16383 (2 ^ 50) (omega arith) unit))
]

-- every address lies in the window of the base that it gives
pub is_in_window-own : (e b address : ℕ) → b < 16384 → is_in_window e (decoded_base e b address) address ≡ true
unfolding is_in_window
is_in_window-own e b address mantissa = elim (cases_lt e 50) [
  | inl below ↦
      let s : ℕ = step_of e in
      let h : ℕ = b / 2048 in
      let low : e ≤ 50 = omega arith in
      let inside : place_of s h address < 8 * s = place_of-below s h address (pow_pos (e + 11)) in
      let distance =
      distance_of-own_base s (2 ^ (50 - e)) (2 ^ 64) (space-windows e low) address h (rest_of e b) (omega arith) (rest_below_step e b)
      (window_fits e low) in
      let near : distance_of (2 ^ 64) s (decoded_base e b address / s) address < 8 * s =
      rw (decoded_base-low e b address low, distance) inside in
      or_right _ _ (lt-ltb _ _ near)
  | inr wide ↦ or_left _ _ (le-leb 50 e wide)
]

-- a base of p units lies past step p / 2048
div-step : (e p : ℕ) → p * 2 ^ e / step_of e ≡ p / 2048
div-step e p = rw (mantissa-steps e p) (div-mul-add (p / 2048) (step_of e) (rest_of e p) (rest_below_step e p))

-- above exponent 50 the units of an address are few
units_below : (e p : ℕ) → 50 < e → p * 2 ^ e < 2 ^ 64 → p < 16384
units_below e p above fits = elim (cases_lt p 16384) [
  | inl small ↦ small
  | inr large ↦ let unit : 2 ^ 51 ≤ 2 ^ e = pow_mono above in absurd (omega (arith, mul-le 16384 (2 ^ 51) p (2 ^ e) large unit))
]

-- a base of p units is found again from an address near it
decoded_base-near : (e p address : ℕ) → e ≤ 50 → p * 2 ^ e < 2 ^ 64
    → distance_of (2 ^ 64) (step_of e) (p * 2 ^ e / step_of e) address < 8 * step_of e
    → decoded_base e (p % 16384) address ≡ p * 2 ^ e
decoded_base-near e p address low fits near =
    let s : ℕ = step_of e in
    let whole = div-step e p in
    let near : distance_of (2 ^ 64) s (p / 2048) address < 8 * s = rw whole at near in
    let same_eighth : p % 16384 / 2048 ≡ p / 2048 % 8 = omega arith in
    let same_rest : p % 16384 % 2048 ≡ p % 2048 = omega arith in
    let split = mantissa-steps e p in
    decoded_base-low e (p % 16384) address low
    ∙ rw (same_eighth, same_rest, place_of-near s (2 ^ (50 - e)) (2 ^ 64) (space-windows e low) address (p / 2048) (omega arith) near)
    (base_at-distance address s (p / 2048) (rest_of e p) (2 ^ 64) (omega arith) (omega arith) ∙ sym split)

-- a base of p units is found again from any address in its window
pub decoded_base-in_window : (e p address : ℕ) → e ≤ 52 → p * 2 ^ e < 2 ^ 64 → is_in_window e (p * 2 ^ e) address ≡ true
    → decoded_base e (p % 16384) address ≡ p * 2 ^ e
unfolding is_in_window
decoded_base-in_window e p address high fits holds = elim (cases_order e 50) [
  | inl last ↦
      let room : 8 * 2 ^ (e + 11) ≡ 2 ^ 64 = rw last refl in
      decoded_base-near e p address (omega arith) fits (rw room (mod-lt _ (omega arith)))
  | inr (inl below) ↦
      let s : ℕ = step_of e in
      let distance : ℕ = distance_of (2 ^ 64) s (p * 2 ^ e / s) address in
      let near : distance < 8 * s = elim (or_cases (leb 50 e) (ltb distance (8 * s)) holds) [
        | inl wide ↦ absurd (omega (arith, leb-true 50 e wide))
        | inr near ↦ ltb-true distance (8 * s) near
      ] in
      decoded_base-near e p address (omega arith) fits near
  | inr (inr above) ↦
      let small : p < 16384 = units_below e p above fits in
      decoded_base-high e (p % 16384) address above ∙ rw (mod-eq_of_lt small, mod-eq_of_lt fits) refl
]

-- an address from which a base of p units is found again lies in its window
pub is_in_window-from_base : (e p address : ℕ) → p * 2 ^ e < 2 ^ 64 → decoded_base e (p % 16384) address ≡ p * 2 ^ e
    → is_in_window e (p * 2 ^ e) address ≡ true
unfolding is_in_window
is_in_window-from_base e p address fits same = elim (cases_lt e 50) [
  | inl below ↦
      let s : ℕ = step_of e in
      let low : e ≤ 50 = omega arith in
      let y : ℕ = place_of s (p / 2048 % 8) address in
      let inside : y < 8 * s = place_of-below s (p / 2048 % 8) address (pow_pos (e + 11)) in
      let same_eighth : p % 16384 / 2048 ≡ p / 2048 % 8 = omega arith in
      let same_rest : p % 16384 % 2048 ≡ p % 2048 = omega arith in
      let split = mantissa-steps e p in
      let found = rw (same_eighth, same_rest) at (decoded_base-low e (p % 16384) address low) in
      let placed : base_at (2 ^ 64) s (rest_of e p) address y ≡ p / 2048 * s + rest_of e p = sym found ∙ same ∙ split in
      let distance =
      distance_of-place address s (p / 2048) (rest_of e p) y (2 ^ 64) (omega arith) (omega (arith, window_fits e low)) placed in
      let near : distance_of (2 ^ 64) s (p * 2 ^ e / s) address < 8 * s = rw (div-step e p, distance) inside in
      or_right _ _ (lt-ltb _ _ near)
  | inr wide ↦ or_left _ _ (le-leb 50 e wide)
]

-- the top of a base and a length in units, where the mantissas give the base
pub decoded_top-units : (e p l address : ℕ) → l < 8192 → p * 2 ^ e < 2 ^ 64 → decoded_base e (p % 16384) address ≡ p * 2 ^ e
    → decoded_top e (p % 16384) l address ≡ (p + l) * 2 ^ e % 2 ^ 65
decoded_top-units e p l address short base_fits same = elim (cases_lt 50 e) [
  | inl above ↦
      let small : p < 16384 = units_below e p above base_fits in
      decoded_top-high e (p % 16384) l address above ∙ rw (mod-eq_of_lt small) refl
  | inr low ↦
      let unit = pow_mono low in
      let fits : (p + l) * 2 ^ e < 2 ^ 65 = omega (arith, mul-le l (2 ^ e) 8191 (2 ^ 50) (omega arith) unit) in
      decoded_top-low e (p % 16384) l address low ∙ rw (same, mod-eq_of_lt fits) (omega arith)
]
