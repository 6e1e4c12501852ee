-- Who may use the system registers (UCAM-CL-TR-987, Access_System_Registers; that every listed register asks for it is profile).
use Rattle.std.specs.Prelude.{ℕ, ◌/◌, ◌%◌, ◌^◌, Bool, not, ◌&&◌, ◌||◌, ◌==◌, nat_le, List, [], ◌∷◌, Option}
use Rattle.cap_rights.specs.Permission.{permits}
use Rattle.cap_rights.specs.declared.permission.Permission.TheVariants as permission
use Rattle.base.specs.FirstFault.{first_fault}
use Rattle.base.specs.Registers.{is_csr, is_scr}
use Rattle.base.specs.declared.registers.scr.TheConstants.{PCC, MTCC}
use Rattle.special_regs.specs.Scrs.{Scrs}
use Rattle.special_regs.specs.declared.refusal.SpecialFault.{SpecialFault}
use Rattle.special_regs.specs.declared.refusal.SpecialFault.TheVariants.{S1, S2}

-- the code that PCC fetches may use system registers
abbrev pub has_system_access : Scrs → Bool
has_system_access s = permits s.pcc permission.AccessSystemRegisters

-- a register is only read where bits 11 and 10 of its number are 1 (RISC-V privileged manual, CSR address mapping conventions)
abbrev pub is_read_only : ℕ → Bool
is_read_only n = n / 2 ^ 10 % 4 == 3

-- What a read or, where `writes` is true, a write of control and status register n asks for, in order: there is such a register, and it
-- isn't one that is only read; then access.
abbrev pub csr_checks : Scrs → ℕ → Bool → List (Bool × SpecialFault)
csr_checks s n writes = (is_csr n && not (writes && is_read_only n), S1) ∷ (has_system_access s, S2) ∷ []

unfoldable pub csr_fault : Scrs → ℕ → Bool → Option SpecialFault
csr_fault s n writes = first_fault (csr_checks s n writes)

-- What a read or, where `writes` is true, a replacement of special capability register n asks for, in order: there is such a register,
-- and PCC isn't replaced; then access to MTCC, MTDC, MScratchC or MEPCC.
abbrev pub scr_checks : Scrs → ℕ → Bool → List (Bool × SpecialFault)
scr_checks s n writes = (is_scr n && not (writes && (n == PCC)), S1) ∷ (not (nat_le MTCC n) || has_system_access s, S2) ∷ []

unfoldable pub scr_fault : Scrs → ℕ → Bool → Option SpecialFault
scr_fault s n writes = first_fault (scr_checks s n writes)

-- What the return from a trap asks for: access.
abbrev pub return_checks : Scrs → List (Bool × SpecialFault)
return_checks s = (has_system_access s, S2) ∷ []

unfoldable pub return_fault : Scrs → Option SpecialFault
return_fault s = first_fault (return_checks s)
