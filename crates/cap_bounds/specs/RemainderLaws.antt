-- Remainders of numbers that are multiples apart.
use Rattle.std.proofs.Common.{◌≡◌, ℕ, ◌+◌, ◌*◌, ◌/◌, ◌%◌, ◌<◌, sym, ap, ◌∙◌, arith}
use Rattle.std.proofs.Math.Nat.{add-mul-mod_self_right, mod-eq_of_lt}

-- numbers that are multiples apart leave the same remainder
pub mod-apart : (x y i j w : ℕ) → x + i * w ≡ y + j * w → x % w ≡ y % w
mod-apart x y i j w e = sym (add-mul-mod_self_right x i w) ∙ ap (λ n. n % w) e ∙ add-mul-mod_self_right y j w

-- the remainder is the number below w that is multiples apart
pub mod-is : (x y i j w : ℕ) → y < w → x + i * w ≡ y + j * w → x % w ≡ y
mod-is x y i j w small e = mod-apart x y i j w e ∙ mod-eq_of_lt small

-- numbers that leave the same remainder are multiples apart
pub multiples_apart : (x y w : ℕ) → x % w ≡ y % w → x + y / w * w ≡ y + x / w * w
multiples_apart x y w e = omega arith
