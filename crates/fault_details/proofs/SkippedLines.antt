-- Lines that are skipped one after the other.
use Rattle.std.proofs.Common.{◌≡◌, ℕ, zero, suc, ◌+◌, List, refl, arith}
use Rattle.std.specs.List.{after_first}
use Rattle.std.specs.Prelude.{◌==◌}
use Rattle.fault_details.specs.Detail.{after_lines}

pub after_lines-after_lines : (m n : ℕ) (text : List ℕ) → after_lines n (after_lines m text) ≡ after_lines (m + n) text
after_lines-after_lines zero n text = let none : zero + n ≡ n = omega arith in rw none refl
after_lines-after_lines (suc m) n text =
    let more : suc m + n ≡ suc (m + n) = omega arith in
    rw more (after_lines-after_lines m n (after_first (λ b. b == 10) text))
