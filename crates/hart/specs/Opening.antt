-- The state in which an image is opened.
use Rattle.std.specs.Prelude.{true, false, ◌==◌, List, [], ◌∷◌}
use Rattle.cap_bounds.specs.Record.{Record, encoded}
use Rattle.cap_bounds.specs.Root.{root}
use Rattle.cap_bounds.specs.SetBounds.{bounded}
use Rattle.tagged_memory.specs.Memory.{Memory, zeroed, data_written, capability_written}
use Rattle.devices.specs.Devices.{idle}
use Rattle.special_regs.specs.Csrs.{zero_csrs}
use Rattle.special_regs.specs.Scrs.{Scrs}
use Rattle.image.specs.declared.cap_entry.CapEntry.{CapEntry}
use Rattle.image.specs.Image.{Image, Section}
use Rattle.registers.specs.Registers.{null, null_registers}
use Rattle.steps.specs.State.{State}

-- memory with sections written into it, one after the other
abbrev pub with_sections : List Section → Memory → Memory
with_sections [] m = m
with_sections (s ∷ ss) m = with_sections ss (data_written m s.address s.bytes)

-- RAM with the sections and zeros, and no tag
abbrev pub loaded_memory : Image → Memory
loaded_memory i = with_sections i.sections (zeroed i.pages)

-- root at the entry's base, set to its length (*set bounds*), with its permissions and its flag
abbrev pub entry_record : CapEntry → Record
entry_record e = record (bounded (root e.base false) e.length) { perms = e.perms; flag = e.flag == 1 }

-- memory with the capabilities of entries put at their places, tagged, one after the other
abbrev pub with_capabilities : List CapEntry → Memory → Memory
with_capabilities [] m = m
with_capabilities (e ∷ es) m = with_capabilities es (capability_written m e.place (encoded (entry_record e)) true)

-- RAM holds the sections and zeros, over them the capabilities of the entries, and no other tag
abbrev pub opening_memory : Image → Memory
opening_memory i = with_capabilities i.capabilities (loaded_memory i)

-- PCC is root at the entry with the mode as flag; DDC, MTCC and MEPCC are root at 0; MTDC and MScratchC are null
abbrev pub opening_scrs : Image → Scrs
opening_scrs i = record {
  pcc = root i.entry i.mode;
  ddc = root 0 false;
  mtcc = root 0 false;
  mtdc = null;
  mscratchc = null;
  mepcc = root 0 false;
}

-- The registers are null, the counters and the other control registers 0, and the devices idle.
abbrev pub opening : Image → State
opening i = record {
  registers = null_registers;
  scrs = opening_scrs i;
  csrs = zero_csrs;
  memory = opening_memory i;
  devices = idle;
}
