-- What every state says of its special registers.
use Rattle.std.specs.Prelude.{◌≡◌, ℕ, ◌^◌, ◌<◌, length, slice_index}
use Rattle.base.specs.declared.registers.TheConstants.{CSRS}
use Rattle.cap_bounds.specs.CapValue.{IsSound}
use Rattle.special_regs.specs.declared.csrs.Csrs.{Csrs}
use Rattle.special_regs.specs.Scrs.{Scrs, IsAligned}

-- the special capability registers hold sound values, and PCC's address is a multiple of 4
pub record AreSound (s : Scrs) : Type 0 where
  pub pcc : IsSound s.pcc
  pub ddc : IsSound s.ddc
  pub mtcc : IsSound s.mtcc
  pub mtdc : IsSound s.mtdc
  pub mscratchc : IsSound s.mscratchc
  pub mepcc : IsSound s.mepcc
  pub aligned : IsAligned s.pcc

-- the control and status registers hold numbers of 64 bits, a number each
pub record AreInRange (c : Csrs) : Type 0 where
  pub mie : c.mie < 2 ^ 64
  pub kept : (k : ℕ) → slice_index c.kept k < 2 ^ 64
  pub count : length c.kept ≡ length CSRS
  pub mcause : c.mcause < 2 ^ 64
  pub mtval : c.mtval < 2 ^ 64
  pub mcycle : c.mcycle < 2 ^ 64
  pub minstret : c.minstret < 2 ^ 64
