-- There is no register above the special ones.
use Rattle.std.proofs.Common.{◌≡◌, ℕ, ◌-◌, ◌≤◌, None, refl, arith}
use Rattle.std.proofs.lemmas.Bool.{ne_eqb, le-ltb}
use Rattle.cap_bounds.specs.CapValue.{integer}
use Rattle.special_regs.specs.Scrs.{Scrs, scr_value}
use Rattle.steps.specs.State.{State}
use Rattle.explain.specs.WhyText.{capability_in}

no_special : (s : Scrs) (n : ℕ) → 32 ≤ n → scr_value s n ≡ None
unfolding scr_value
no_special s n high =
    rw (
      ne_eqb 0 n (λ is. omega arith),
      ne_eqb 1 n (λ is. omega arith),
      ne_eqb 28 n (λ is. omega arith),
      ne_eqb 29 n (λ is. omega arith),
      ne_eqb 30 n (λ is. omega arith),
      ne_eqb 31 n (λ is. omega arith),
    ) refl

pub no_register : (s : State) (n : ℕ) → 64 ≤ n → integer 0 ≡ capability_in s n
no_register s n high =
    rw (le-ltb n 32 (omega arith), no_special s.scrs (n - 32) (omega arith)) refl
