use Rattle.std.proofs.Common.{◌≡◌, ℕ, ◌<◌, true}
use Rattle.cap_bounds.specs.CapValue.{is_tagged}
use Rattle.registers.specs.Registers.{register}
use Rattle.policy.specs.Terms.{terms}
use Rattle.policy.specs.Rule.{BreaksRule}
use Rattle.policy.proofs.certificate.registers_keep.Given as goal

abbrev pub invariant-loop-n : goal.invariant-loop-n
invariant-loop-n g l =
    (n : ℕ) → n < l.n → is_tagged (register l.hart.registers n) ≡ true → BreaksRule (terms l.rule) (register l.hart.registers n) → ⊥
