-- A value permits what is among its permissions, and the number that shows a set names it.
use Rattle.std.proofs.Common.{◌≡◌, ℕ, zero, suc, ◌*◌, ◌^◌, ◌<◌, ◌==◌, sym, ap, ◌∙◌, arith}
use Rattle.std.specs.Int.{bit_at}
use Rattle.std.proofs.lemmas.Nat.{pow_pos, mod_below}
use Rattle.std.proofs.lemmas.Nat.Bits.{and_pow}
use Rattle.std.proofs.lemmas.Bool.{eq-eqb, ne_eqb}
use Rattle.cap_bounds.specs.CapValue.{value_perms}
use Rattle.cap_rights.specs.Permission.{bit_of, permits}
use Rattle.cap_rights.specs.Perms.{hardware_view, perms_in_view, PermittedIsAmongThePermissions, ViewNamesItsSet}

-- a bit of 0 or 1, at its worth, is the worth exactly where it is 1
bit_test : (b u : ℕ) → b < 2 → 0 < u → (b == 1) ≡ (b * u == u)
bit_test zero u small positive = let nil : 0 * u ≡ 0 = omega arith in rw nil (sym (ne_eqb 0 u (λ e. omega arith)))
bit_test (suc b) u small positive = let one : b ≡ 0 = omega arith in rw one (sym (eq-eqb (1 * u) u (omega arith)))

pub permits-among : PermittedIsAmongThePermissions
unfolding permits
permits-among v p =
    bit_test (bit_at (value_perms v) (bit_of p)) (2 ^ bit_of p) (mod_below _ 2 (pow_pos 1)) (pow_pos (bit_of p))
    ∙ ap (λ n. n == 2 ^ bit_of p) (sym (and_pow (value_perms v) (bit_of p)))

pub perms_in_view-hardware_view : ViewNamesItsSet
unfolding perms_in_view hardware_view
perms_in_view-hardware_view perms fits = omega arith
