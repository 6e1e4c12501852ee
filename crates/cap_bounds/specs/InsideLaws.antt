-- The addresses in a capability's bounds, its top included, lie in its window.
use Rattle.std.proofs.Common.{◌≡◌, ℕ, ◌+◌, ◌-◌, ◌*◌, ◌/◌, ◌%◌, ◌^◌, ◌<◌, ◌≤◌, true, inl, inr, arith}
use Rattle.std.proofs.lemmas.Nat.{pow-add, pow_pos}
use Rattle.std.proofs.lemmas.Bool.{cases_lt, lt-ltb, le-leb, or_left, or_right}
use Rattle.cap_bounds.specs.Record.{exponent_for, is_in_window}
use Rattle.cap_bounds.specs.SetAddress.{BoundsLieInTheWindow}
use Rattle.cap_bounds.specs.ExponentLaws.{exponent_for-holds}
use Rattle.cap_bounds.specs.PowerLaws.{window_fits}
use Rattle.cap_bounds.specs.RemainderLaws.{mod-is}

-- addresses less than half a window past the base, round the end of the address space too
pub is_in_window-past : (e base address : ℕ) → base < 2 ^ 64 → address < 2 ^ 64 → (address + (2 ^ 64 - base)) % 2 ^ 64 < 2 ^ (e + 13)
    → is_in_window e base address ≡ true
unfolding is_in_window
is_in_window-past e base address base_fits fits near = elim (cases_lt e 50) [
  | inl below ↦
      let s : ℕ = 2 ^ (e + 11) in
      let positive : 0 < 2 ^ (e + 11) = pow_pos (e + 11) in
      let room : 8 * 2 ^ (e + 11) ≤ 2 ^ 64 = window_fits e (omega arith) in
      let half : 2 ^ (e + 13) ≡ 4 * 2 ^ (e + 11) = omega (arith, pow-add 2 e 13, pow-add 2 e 11) in
      let rest : base - base / s * s < 2 ^ (e + 11) = omega arith in
      let rounds : ℕ = (address + (2 ^ 64 - base)) / 2 ^ 64 in
      let place : (address + 2 ^ 64 + s - base / s * s) % 2 ^ 64 ≡ s + (base - base / s * s) + (address + (2 ^ 64 - base)) % 2 ^ 64 =
      mod-is (address + 2 ^ 64 + s - base / s * s) (s + (base - base / s * s) + (address + (2 ^ 64 - base)) % 2 ^ 64) 0 rounds (2 ^ 64)
      (omega arith) (omega arith) in
      let close : (address + 2 ^ 64 + s - base / s * s) % 2 ^ 64 < 8 * s = rw place (omega arith) in
      or_right _ _ (lt-ltb _ _ close)
  | inr wide ↦ or_left _ _ (le-leb 50 e wide)
]

pub bounds_in_window : BoundsLieInTheWindow
bounds_in_window r address well fits low high =
    let in_space = well.in_space in
    let short = exponent_for-holds (r.top - r.base) (omega arith) in
    let past : (address + (2 ^ 64 - r.base)) % 2 ^ 64 ≡ address - r.base =
    mod-is (address + (2 ^ 64 - r.base)) (address - r.base) 0 1 (2 ^ 64) (omega arith) (omega (arith, well.base_fits)) in
    is_in_window-past (exponent_for (r.top - r.base)) r.base address well.base_fits fits (rw past (omega arith))
