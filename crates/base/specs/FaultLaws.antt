-- The numbers of a fault have 64 bits.
use Rattle.std.proofs.Common.{ℕ, ◌+◌, ◌*◌, ◌^◌, ◌<◌, arith, lit<}
use Rattle.base.specs.declared.fault.Fault.{Fault}
use Rattle.base.specs.declared.cause.Cause.{Cause}
use Rattle.base.specs.declared.cause.Cause.TheVariants as cause
use Rattle.base.specs.declared.cause.CheriCause.{CheriCause}
use Rattle.base.specs.declared.cause.CheriCause.TheVariants as cheri_cause
use Rattle.base.specs.Fault.{number_of, cheri_number_of, fault, cheri}

-- a fault's numbers have 64 bits
pub record IsInRange (f : Fault) : Type 0 where
  pub mcause : f.mcause < 2 ^ 64
  pub mtval : f.mtval < 2 ^ 64

number_of-below : (c : Cause) → number_of c < 2 ^ 64
number_of-below cause.MisalignedJump = lit< tt
number_of-below cause.FetchAccess = lit< tt
number_of-below cause.IllegalInstruction = lit< tt
number_of-below cause.Breakpoint = lit< tt
number_of-below cause.MisalignedLoad = lit< tt
number_of-below cause.LoadAccess = lit< tt
number_of-below cause.MisalignedStore = lit< tt
number_of-below cause.StoreAccess = lit< tt
number_of-below cause.EnvironmentCall = lit< tt
number_of-below cause.Cheri = lit< tt

cheri_number_of-below : (c : CheriCause) → cheri_number_of c < 32
cheri_number_of-below cheri_cause.Length = lit< tt
cheri_number_of-below cheri_cause.Tag = lit< tt
cheri_number_of-below cheri_cause.Seal = lit< tt
cheri_number_of-below cheri_cause.Type = lit< tt
cheri_number_of-below cheri_cause.Execute = lit< tt
cheri_number_of-below cheri_cause.Load = lit< tt
cheri_number_of-below cheri_cause.Store = lit< tt
cheri_number_of-below cheri_cause.StoreCapability = lit< tt
cheri_number_of-below cheri_cause.StoreLocalCapability = lit< tt
cheri_number_of-below cheri_cause.AccessSystemRegisters = lit< tt
cheri_number_of-below cheri_cause.CInvoke = lit< tt

pub IsInRange-fault : (c : Cause) (mtval : ℕ) → mtval < 2 ^ 64 → IsInRange (fault c mtval)
unfolding fault
IsInRange-fault c mtval fits = record { mcause = number_of-below c; mtval = fits }

-- a register at fault is one of 32 general and 32 special ones
pub IsInRange-cheri : (register : ℕ) (what : CheriCause) → register < 64 → IsInRange (cheri register what)
unfolding cheri
IsInRange-cheri register what exists =
    let small = cheri_number_of-below what in
    let fits : 32 * register + cheri_number_of what < 2 ^ 64 = omega arith in
    IsInRange-fault cause.Cheri (32 * register + cheri_number_of what) fits
