-- The special registers that there are, by number and name (RISC-V privileged manual, CSR listing; UCAM-CL-TR-987, CHERI-RISC-V special
-- capability registers).
use Rattle.std.specs.Prelude.{ℕ, ◌+◌, Bool, ◌==◌, List, map}
use Rattle.std.specs.List.{list_any}
use Rattle.base.specs.declared.registers.Holds.{Holds}
use Rattle.base.specs.declared.registers.TheConstants.{CSRS, SPECIAL_REGISTERS}
use Rattle.base.specs.declared.registers.scr.TheConstants.{PCC, DDC}

-- the control and status registers: of each its number, the bytes of its name, and what it holds
abbrev pub listing : List (ℕ × List ℕ × Holds)
listing = map (λ r. (r.0, r.1.now, r.2)) CSRS

-- each register's number with the bytes of its name
abbrev pub csrs : List (ℕ × List ℕ)
csrs = map (λ r. (r.0, r.1.now)) CSRS

-- each register's number with what it holds
abbrev pub held : List (ℕ × Holds)
held = map (λ r. (r.0, r.2)) CSRS

abbrev pub special_registers : List (ℕ × List ℕ)
special_registers = map (λ r. (r.0, r.1.now)) SPECIAL_REGISTERS

-- there is a register of this number
abbrev pub is_csr : ℕ → Bool
is_csr n = list_any (λ r. r.0 == n) CSRS

abbrev pub is_scr : ℕ → Bool
is_scr n = list_any (λ r. r.0 == n) SPECIAL_REGISTERS

-- a special register among the registers of a fault: they count from 32
abbrev pub special_register : ℕ → ℕ
special_register n = 32 + n

-- the program counter capability and the default data capability among them
abbrev pub pcc_register : ℕ
pcc_register = special_register PCC

abbrev pub ddc_register : ℕ
ddc_register = special_register DDC
