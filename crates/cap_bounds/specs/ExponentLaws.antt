-- The exponent of a length, by what it is for.
use Rattle.std.proofs.Common.{◌≡◌, ℕ, ◌+◌, ◌-◌, ◌<◌, ◌≤◌, ◌^◌, ltb, arith, inl, inr}
use Rattle.std.proofs.lemmas.Bool.{ltb-true, ltb-false, lt-ltb, le-ltb, cases_lt}
use Rattle.cap_bounds.specs.LeastLaws.{least_up_to-is, least_up_to-high, least_up_to-none, least_up_to-holds}
use Rattle.cap_bounds.specs.Record.{exponent_for}

pub exponent_for-is : (n e : ℕ) → e ≤ 52 → ((j : ℕ) → j < e → 2 ^ (j + 13) ≤ n) → (e < 52 → n < 2 ^ (e + 13)) → exponent_for n ≡ e
unfolding exponent_for
exponent_for-is n e high large small =
    least_up_to-is 52 e (λ e. ltb n (2 ^ (e + 13))) high (λ j below. le-ltb n (2 ^ (j + 13)) (large j below))
    (λ below. lt-ltb n (2 ^ (e + 13)) (small below))

pub exponent_for-high : (n : ℕ) → exponent_for n ≤ 52
unfolding exponent_for
exponent_for-high n = least_up_to-high 52 (λ e. ltb n (2 ^ (e + 13)))

-- a smaller exponent would be too small
pub exponent_for-none : (n j : ℕ) → j < exponent_for n → 2 ^ (j + 13) ≤ n
unfolding exponent_for
exponent_for-none n j below = ltb-false n (2 ^ (j + 13)) (least_up_to-none 52 j (λ e. ltb n (2 ^ (e + 13))) below)

exponent_for-below : (n : ℕ) → exponent_for n < 52 → n < 2 ^ (exponent_for n + 13)
unfolding exponent_for
exponent_for-below n below = ltb-true n _ (least_up_to-holds 52 (λ e. ltb n (2 ^ (e + 13))) below)

-- the length is below 2 ^ (e + 13)
pub exponent_for-holds : (n : ℕ) → n < 2 ^ 65 → n < 2 ^ (exponent_for n + 13)
exponent_for-holds n small = elim (cases_lt (exponent_for n) 52) [
  | inl below ↦ exponent_for-below n below
  | inr last ↦
      let e : exponent_for n ≡ 52 = omega (arith, exponent_for-high n) in
      rw e small
]

-- a length below 4096 has exponent 0
pub exponent_for-short : (n : ℕ) → n < 4096 → exponent_for n ≡ 0
exponent_for-short n small = exponent_for-is n 0 (omega arith) (λ j below. absurd (omega arith)) (λ _. omega arith)

-- a length from 4096 on takes all the 13 bits of its exponent
pub exponent_for-long : (n : ℕ) → 4096 ≤ n → 2 ^ (exponent_for n + 12) ≤ n
exponent_for-long n large = elim (cases_lt 0 (exponent_for n)) [
  | inl some ↦
      let before : exponent_for n - 1 < exponent_for n = omega arith in
      let same : exponent_for n - 1 + 13 ≡ exponent_for n + 12 = omega arith in
      rw same at (exponent_for-none n (exponent_for n - 1) before)
  | inr zero ↦
      let zero : exponent_for n ≡ 0 = omega arith in
      rw zero large
]
