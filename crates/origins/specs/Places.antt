-- What a state holds at a place: in a register, in a special capability register, in a granule of RAM.
use Rattle.std.specs.Prelude.{◌≡◌, ◌%◌, ◌<◌, true, IsTrue}
use Rattle.std.specs.Option.{unwrap_or}
use Rattle.base.specs.declared.registers.scr.TheConstants.{PCC, DDC, MTCC, MEPCC}
use Rattle.cap_bounds.specs.CapValue.{CapValue, value_of}
use Rattle.base.specs.Registers.{is_scr}
use Rattle.origins.specs.declared.place.Place.{Place}
use Rattle.origins.specs.declared.place.Place.TheVariants.{Register, Special, Granule}
use Rattle.tagged_memory.specs.Memory.{has_tag, is_in_ram, word_at}
use Rattle.special_regs.specs.Scrs.{scr_value}
use Rattle.registers.specs.Registers.{null, register}
use Rattle.steps.specs.State.{State}

-- there is such a register, or the granule begins at a multiple of 16
abbrev pub IsHolder : Place → Type 0
IsHolder (Register n) = n < 32
IsHolder (Special n) = IsTrue (is_scr n)
IsHolder (Granule address) = address % 16 ≡ 0

-- what a place holds
unfoldable pub held : Place → State → CapValue
held (Register n) s = register s.registers n
held (Special n) s = unwrap_or (scr_value s.scrs n) null
held (Granule address) s = value_of (word_at s.memory address) (has_tag s.memory address)

-- the special registers that steps write by themselves
abbrev pub pcc : Place
pcc = Special PCC

abbrev pub ddc : Place
ddc = Special DDC

abbrev pub mtcc : Place
mtcc = Special MTCC

abbrev pub mepcc : Place
mepcc = Special MEPCC

-- There is such a place: a register, or a granule that lies in RAM.
abbrev pub IsThere : Place → State → Type 0
IsThere (Granule address) s = IsHolder (Granule address) × (is_in_ram s.memory address 16 ≡ true)
IsThere place s = IsHolder place
