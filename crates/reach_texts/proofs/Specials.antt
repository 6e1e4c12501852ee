-- The special registers of a reach are four.
use Rattle.std.specs.Prelude.{◌≡◌, ℕ, ◌+◌, ◌≤◌, false, nat_lt, None}
use Rattle.std.proofs.Common.{arith, refl}
use Rattle.std.proofs.lemmas.Bool.Decides.{nat_tests}
use Rattle.base.specs.declared.registers.scr.TheConstants.{MTCC}
use Rattle.asm_names.specs.TrapNames.{register_at_fault}

not_general : (n : ℕ) → 4 ≤ n → nat_lt (32 + MTCC + n) 32 ≡ false
not_general n far = grind (arith, nat_tests)

not_special : (n : ℕ) → 4 ≤ n → nat_lt (32 + MTCC + n) 64 ≡ false
not_special n far = grind (arith, nat_tests)

pub no_special : (n : ℕ) → 4 ≤ n → register_at_fault (32 + MTCC + n) ≡ None
unfolding register_at_fault
no_special n far = rw (not_general n far, not_special n far) refl
