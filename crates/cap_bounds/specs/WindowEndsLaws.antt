-- An address lies in a window exactly if it comes no later than the window's last one.
use Rattle.std.proofs.Common.{◌≡◌, ℕ, ◌+◌, ◌-◌, ◌*◌, ◌/◌, ◌%◌, ◌^◌, ◌<◌, ◌≤◌, leb, ltb, sym, ◌∙◌, inl, inr, arith}
use Rattle.std.proofs.Math.Pow.{pow_mono}
use Rattle.std.proofs.lemmas.Nat.{pow_pos}
use Rattle.std.proofs.lemmas.Bool.{le-leb, lt-leb, lt-ltb, le-ltb, cases_lt, cond-true, cond-false}
use Rattle.cap_bounds.specs.Window.{step_of}
use Rattle.cap_bounds.specs.Record.{is_in_window}
use Rattle.cap_bounds.specs.PowerLaws.{window_fits}
use Rattle.cap_bounds.specs.WindowEnds.{window_size, window_first, window_last, window_place}

-- from e = 50 on the window has every address
window_first-wide : (e base : ℕ) → 50 ≤ e → window_first e base ≡ 0
unfolding window_first
window_first-wide e base wide = cond-true _ _ _ (le-leb 50 e wide)

window_size-wide : (e : ℕ) → 50 ≤ e → window_size e ≡ 2 ^ 64
unfolding window_size
window_size-wide e wide = cond-true _ _ _ (le-leb 50 e wide)

-- below it has eight steps
window_first-narrow : (e base : ℕ) → e < 50
    → window_first e base ≡ (base / step_of e * step_of e + 2 ^ 64 - step_of e) % 2 ^ 64
unfolding window_first
window_first-narrow e base narrow = cond-false _ _ _ (lt-leb 50 e narrow)

window_size-narrow : (e : ℕ) → e < 50 → window_size e ≡ 8 * step_of e
unfolding window_size
window_size-narrow e narrow = cond-false _ _ _ (lt-leb 50 e narrow)

pub size_shifted : (e : ℕ) → e < 50 → 8 * 2 ^ (e + 11) % 2 ^ 128 ≡ window_size e
size_shifted e narrow = rw (window_size-narrow e narrow) (omega (arith, window_fits e (omega arith)))

-- a window has so many addresses
pub size_some : (e : ℕ) → 16384 ≤ window_size e
size_some e = elim (cases_lt e 50) [
  | inl narrow ↦
      let least : 11 ≤ e + 11 = omega arith in
      let power : 2 ^ 11 ≤ 2 ^ (e + 11) = pow_mono least in
      rw (window_size-narrow e narrow) (omega arith)
  | inr wide ↦ rw (window_size-wide e wide) (omega arith)
]

pub size_fits : (e : ℕ) → window_size e ≤ 2 ^ 64
size_fits e = elim (cases_lt e 50) [
  | inl narrow ↦ rw (window_size-narrow e narrow) (window_fits e (omega arith))
  | inr wide ↦ rw (window_size-wide e wide) (omega arith)
]

pub ruleset sizes = (size_shifted, size_some, size_fits)

pub window_first-below : (e base : ℕ) → window_first e base < 2 ^ 64
window_first-below e base = elim (cases_lt e 50) [
  | inl narrow ↦ rw (window_first-narrow e base narrow) (omega arith)
  | inr wide ↦ rw (window_first-wide e base wide) (omega arith)
]

-- the last one lies so many past the first, less one
window_place-last : (e base : ℕ) → window_place e base (window_last e base) ≡ window_size e - 1
unfolding window_place window_last
window_place-last e base = omega (arith, window_first-below e base, size_some e, size_fits e)

-- below e = 50 the place is counted from a step below the base's
window_place-narrow : (e base address : ℕ) → e < 50 → base < 2 ^ 64 → address < 2 ^ 64
    → window_place e base address ≡ (address + 2 ^ 64 + step_of e - base / step_of e * step_of e) % 2 ^ 64
unfolding window_place
window_place-narrow e base address narrow base_fits fits =
    let room = window_fits e (omega arith) in
    let positive = pow_pos (e + 11) in
    let first = window_first-narrow e base narrow in
    let low : base / step_of e * step_of e ≤ base = omega arith in
    omega arith

-- a place is below 2 ^ 64
place_below : (e base address : ℕ) → window_place e base address ≤ 2 ^ 64 - 1
unfolding window_place
place_below e base address = omega arith

same_test : (x n : ℕ) → 0 < n → ltb x n ≡ leb x (n - 1)
same_test x n some = elim (cases_lt x n) [
  | inl below ↦ lt-ltb x n below ∙ sym (le-leb x (n - 1) (omega arith))
  | inr above ↦ le-ltb x n above ∙ sym (lt-leb x (n - 1) (omega arith))
]

pub is_in_window-place : (e base address : ℕ) → base < 2 ^ 64 → address < 2 ^ 64
    → is_in_window e base address ≡ leb (window_place e base address) (window_place e base (window_last e base))
unfolding is_in_window
is_in_window-place e base address base_fits fits = elim (cases_lt e 50) [
  | inl narrow ↦
      let place = window_place-narrow e base address narrow base_fits fits in
      rw (lt-leb 50 e narrow, window_place-last e base, window_size-narrow e narrow, place)
      (same_test _ (8 * step_of e) (omega (arith, pow_pos (e + 11))))
  | inr wide ↦
      let below : window_place e base address ≤ 2 ^ 64 - 1 = place_below e base address in
      rw (le-leb 50 e wide, window_place-last e base, window_size-wide e wide) (sym (le-leb _ _ below))
]
