-- Steps, windows and the address space as powers of 2.
use Rattle.std.proofs.Common.{◌≡◌, ℕ, ◌+◌, ◌-◌, ◌*◌, ◌/◌, ◌%◌, ◌^◌, ◌<◌, ◌≤◌, sym, ap, ◌∙◌, arith}
use Rattle.std.proofs.Math.Pow.{pow_mono}
use Rattle.std.proofs.lemmas.Nat.{pow-add, pow_pos}

-- a step is 2048 units of 2 ^ e
pub step-units : (e : ℕ) → 2 ^ (e + 11) ≡ 2048 * 2 ^ e
step-units e = omega (arith, pow-add 2 e 11)

-- a window is eight steps
pub window-steps : (e : ℕ) → 2 ^ (e + 14) ≡ 8 * 2 ^ (e + 11)
window-steps e = omega (arith, pow-add 2 e 14, pow-add 2 e 11)

-- the address space is a whole number of windows
pub space-windows : (e : ℕ) → e ≤ 50 → 2 ^ 64 ≡ 2 ^ (50 - e) * (8 * 2 ^ (e + 11))
space-windows e low =
    let total : 50 - e + (e + 14) ≡ 64 = omega arith in
    sym (ap (λ n. 2 ^ n) total) ∙ pow-add 2 (50 - e) (e + 14) ∙ ap (λ n. 2 ^ (50 - e) * n) (window-steps e)

-- a window is no larger than the address space
pub window_fits : (e : ℕ) → e ≤ 50 → 8 * 2 ^ (e + 11) ≤ 2 ^ 64
window_fits e low = let fits : e + 14 ≤ 64 = omega arith in omega (arith, pow_mono fits, window-steps e)

-- a mantissa is its whole steps and a rest below one step
pub mantissa-steps : (e b : ℕ) → b * 2 ^ e ≡ b / 2048 * 2 ^ (e + 11) + b % 2048 * 2 ^ e
mantissa-steps e b =
    let split : b ≡ b / 2048 * 2048 + b % 2048 = omega arith in
    omega (arith, ap (λ n. n * 2 ^ e) split, ap (λ n. b / 2048 * n) (step-units e))

-- that rest is below one step
pub rest_below_step : (e b : ℕ) → b % 2048 * 2 ^ e < 2 ^ (e + 11)
rest_below_step e b = let small : b % 2048 < 2048 = omega arith in grind (arith, step-units e, pow_pos e)
