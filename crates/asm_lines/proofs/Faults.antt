-- The fault that is told of several operands.
use Rattle.std.proofs.Common.{◌≡◌, Option, Some, None, refl}
use Rattle.asm_lines.specs.declared.fault.LineFault.{LineFault}
use Rattle.asm_lines.specs.declared.fault.LineFault.TheVariants.{A1, A2, A3, A8, A9}
use Rattle.asm_lines.specs.Operand.{told_fault}

-- it does not matter which two are looked at first
pub told_in_turn : (a b c : Option LineFault) → told_fault a (told_fault b c) ≡ told_fault (told_fault a b) c
told_in_turn None b c = refl
told_in_turn (Some a) None c = refl
told_in_turn (Some a) (Some A1) None = refl
told_in_turn (Some a) (Some A1) (Some A1) = refl
told_in_turn (Some a) (Some A1) (Some A2) = refl
told_in_turn (Some a) (Some A1) (Some A3) = refl
told_in_turn (Some a) (Some A1) (Some A8) = refl
told_in_turn (Some a) (Some A1) (Some A9) = refl
told_in_turn (Some a) (Some A2) None = refl
told_in_turn (Some a) (Some A2) (Some A1) = refl
told_in_turn (Some a) (Some A2) (Some A2) = refl
told_in_turn (Some a) (Some A2) (Some A3) = refl
told_in_turn (Some a) (Some A2) (Some A8) = refl
told_in_turn (Some a) (Some A2) (Some A9) = refl
told_in_turn (Some a) (Some A3) None = refl
told_in_turn (Some a) (Some A3) (Some A1) = refl
told_in_turn (Some a) (Some A3) (Some A2) = refl
told_in_turn (Some a) (Some A3) (Some A3) = refl
told_in_turn (Some a) (Some A3) (Some A8) = refl
told_in_turn (Some a) (Some A3) (Some A9) = refl
told_in_turn (Some a) (Some A8) None = refl
told_in_turn (Some a) (Some A8) (Some A1) = refl
told_in_turn (Some a) (Some A8) (Some A2) = refl
told_in_turn (Some a) (Some A8) (Some A3) = refl
told_in_turn (Some a) (Some A8) (Some A8) = refl
told_in_turn (Some a) (Some A8) (Some A9) = refl
told_in_turn (Some a) (Some A9) None = refl
told_in_turn (Some a) (Some A9) (Some A1) = refl
told_in_turn (Some a) (Some A9) (Some A2) = refl
told_in_turn (Some a) (Some A9) (Some A3) = refl
told_in_turn (Some a) (Some A9) (Some A8) = refl
told_in_turn (Some a) (Some A9) (Some A9) = refl

pub told_without : (a : Option LineFault) → told_fault a None ≡ a
told_without None = refl
told_without (Some a) = refl
