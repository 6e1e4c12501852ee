-- A pair that is invoked: a state that the laws on doors and on turns speak of.
use Rattle.std.specs.Prelude.{ℕ, true, false, List, [], ◌∷◌, slice_set}
use Rattle.byteorder.specs.Endian.{little_bytes}
use Rattle.cap_bounds.specs.CapValue.{CapValue, Cap}
use Rattle.cap_bounds.specs.Record.{record_with}
use Rattle.image.specs.Image.{Image}
use Rattle.registers.specs.Registers.{null, null_registers, with_register}
use Rattle.steps.specs.declared.event.Event.{Event}
use Rattle.steps.specs.declared.event.Event.TheVariants.{Step}
use Rattle.steps.specs.State.{State}
use Rattle.hart.specs.Opening.{opening, opening_scrs}
use Rattle.worked.specs.Counter.{code_capability}

-- RAM of one page. It begins with cinvoke ca0, ca1; at 0x8000_0200 stands csw a0, 0(ct6), which stores through the data of the pair.
abbrev pub pair_image : Image
pair_image = record {
  version = 1;
  pages = 1;
  entry = 0x8000_0000;
  mode = false;
  sections =
      record { address = 0x8000_0000; bytes = little_bytes 4 0xfcb5_00db }
      ∷ record { address = 0x8000_0200; bytes = little_bytes 4 0x00af_a023 }
      ∷ [];
  capabilities = [];
}

-- the pair, both sealed with type 7: 256 bytes of code in capability mode, with Global, Execute, Load and CInvoke
abbrev pub sealed_code : CapValue
sealed_code = Cap (record_with 0x8000_0200 0x8000_0300 0x8000_0200 0x107 true 7)

-- and 256 bytes of data, with Global, Load, Store and CInvoke
abbrev pub sealed_data : CapValue
sealed_data = Cap (record_with 0x8000_0300 0x8000_0400 0x8000_0300 0x10d false 7)

-- The image is opened with the pair in ca0 and ca1; PCC is narrowed, and DDC is null.
unfoldable pub caller : State
caller =
    record (opening pair_image) {
      registers = with_register (with_register null_registers 10 sealed_code) 11 sealed_data;
      scrs = record (opening_scrs pair_image) { pcc = code_capability; ddc = null };
    }

-- the invocation, and the store of the code that is invoked
abbrev pub turn : List Event
turn = Step ∷ Step ∷ []

-- the same with another byte at a place of RAM
abbrev pub caller_with : ℕ → ℕ → State
caller_with k byte = record caller { memory = record caller.memory { bytes = slice_set caller.memory.bytes k byte } }
