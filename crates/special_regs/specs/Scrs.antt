-- The special capability registers (UCAM-CL-TR-987, CHERI-RISC-V special capability registers).
use Rattle.std.specs.Prelude.{◌≡◌, ℕ, ◌%◌, List, [], ◌∷◌, Option}
use Rattle.base.specs.declared.registers.scr.TheConstants.{PCC, DDC, MTCC, MTDC, MSCRATCHC, MEPCC}
use Rattle.special_regs.specs.Numbered.{value_at}
use Rattle.cap_bounds.specs.CapValue.{CapValue, value_address}

pub record Scrs : Type 0 where
  pub pcc : CapValue
  pub ddc : CapValue
  pub mtcc : CapValue
  pub mtdc : CapValue
  pub mscratchc : CapValue
  pub mepcc : CapValue

-- PCC's address is a multiple of 4.
abbrev pub IsAligned : CapValue → Type 0
IsAligned v = value_address v % 4 ≡ 0

-- The special registers by number.
abbrev pub scr_values : Scrs → List (ℕ × CapValue)
scr_values s =
    (PCC, s.pcc) ∷ (DDC, s.ddc) ∷ (MTCC, s.mtcc) ∷ (MTDC, s.mtdc) ∷ (MSCRATCHC, s.mscratchc) ∷ (MEPCC, s.mepcc) ∷ []

unfoldable pub scr_value : Scrs → ℕ → Option CapValue
scr_value s n = value_at n (scr_values s)
