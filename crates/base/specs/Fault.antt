-- Why an instruction traps, in numbers (RISC-V privileged manual, mcause; UCAM-CL-TR-987, capability exception codes; profile).
use Rattle.std.specs.Prelude.{ℕ, ◌+◌, ◌*◌}
use Rattle.base.specs.declared.fault.Fault.{Fault}
use Rattle.base.specs.declared.cause.Cause.{Cause}
use Rattle.base.specs.declared.cause.Cause.TheVariants as cause
use Rattle.base.specs.declared.cause.CheriCause.{CheriCause}
use Rattle.base.specs.declared.cause.CheriCause.TheVariants as cheri_cause

-- the number in mcause
abbrev pub number_of : Cause → ℕ
number_of cause.MisalignedJump = 0
number_of cause.FetchAccess = 1
number_of cause.IllegalInstruction = 2
number_of cause.Breakpoint = 3
number_of cause.MisalignedLoad = 4
number_of cause.LoadAccess = 5
number_of cause.MisalignedStore = 6
number_of cause.StoreAccess = 7
number_of cause.EnvironmentCall = 11
number_of cause.Cheri = 28

-- the number of what a capability forbids
abbrev pub cheri_number_of : CheriCause → ℕ
cheri_number_of cheri_cause.Length = 0x01
cheri_number_of cheri_cause.Tag = 0x02
cheri_number_of cheri_cause.Seal = 0x03
cheri_number_of cheri_cause.Type = 0x04
cheri_number_of cheri_cause.Execute = 0x11
cheri_number_of cheri_cause.Load = 0x12
cheri_number_of cheri_cause.Store = 0x13
cheri_number_of cheri_cause.StoreCapability = 0x15
cheri_number_of cheri_cause.StoreLocalCapability = 0x16
cheri_number_of cheri_cause.AccessSystemRegisters = 0x18
cheri_number_of cheri_cause.CInvoke = 0x19

-- the fault of an exception
unfoldable pub fault : Cause → ℕ → Fault
fault cause mtval = record { mcause = number_of cause; mtval = mtval }

-- A fault of the CHERI exception: the register at fault, where special registers count from 32, and what its capability forbids.
unfoldable pub cheri : ℕ → CheriCause → Fault
cheri register what = fault cause.Cheri (32 * register + cheri_number_of what)
