-- Faults of which at most so many are kept, and the others counted, while later ones are still to come.
use Rattle.std.specs.Prelude.{◌≡◌, ◌⊎◌, ◌≤◌, ℕ, ◌+◌, List, ◌++◌, length, take}
use Rattle.assembler.specs.declared.fault.AsmFault.{AsmFault}
use Rattle.assembler.specs.declared.further.FurtherFaults.{FurtherFaults}

pub record IsUpTo (most : ℕ) (all later : List AsmFault) (f : FurtherFaults) : Type 0 where
  pub shown : take most (f.shown.items ++ later) ≡ take most all
  pub count : length f.shown.items + f.left + length later ≡ length all
  pub few : length f.shown.items ≤ most
  pub full : (f.left ≡ 0) ⊎ (length f.shown.items ≡ most)
