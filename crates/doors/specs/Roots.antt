-- Where a search of a state begins, and what Access_System_Registers guards in it.
use Rattle.std.specs.Prelude.{List, [], ◌∷◌, ◌++◌}
use Rattle.cap_bounds.specs.CapValue.{CapValue}
use Rattle.special_regs.specs.Scrs.{Scrs}
use Rattle.steps.specs.State.{State}

-- where a search begins: the 32 registers, PCC and DDC
abbrev pub roots_of : State → List CapValue
roots_of s = s.registers ++ (s.scrs.pcc ∷ s.scrs.ddc ∷ [])

-- what Access_System_Registers guards
abbrev pub specials_of : Scrs → List CapValue
specials_of x = x.mtcc ∷ x.mtdc ∷ x.mscratchc ∷ x.mepcc ∷ []
