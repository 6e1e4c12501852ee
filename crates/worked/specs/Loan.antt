-- A loan that can't be kept: a state that the laws on what is lent without Global speak of.
use Rattle.std.specs.Prelude.{true, false, List, [], ◌∷◌}
use Rattle.byteorder.specs.Endian.{little_bytes}
use Rattle.base.specs.ObjectType.{unsealed_type}
use Rattle.cap_bounds.specs.CapValue.{CapValue, Cap}
use Rattle.cap_bounds.specs.Record.{record_with}
use Rattle.image.specs.Image.{Image}
use Rattle.registers.specs.Registers.{null, null_registers, with_register}
use Rattle.steps.specs.declared.event.Event.{Event}
use Rattle.steps.specs.declared.event.Event.TheVariants.{Step}
use Rattle.steps.specs.Event.{after}
use Rattle.steps.specs.State.{State}
use Rattle.hart.specs.Opening.{opening, opening_scrs}
use Rattle.machine.specs.Run.{run_after}
use Rattle.worked.specs.Counter.{data_capability}

-- RAM of one page. It begins with cmove ca2, ca0; csc ca2, 0(ca1): it moves what was lent, and stores it in its data.
abbrev pub loan_image : Image
loan_image = record {
  version = 1;
  pages = 1;
  entry = 0x8000_0000;
  mode = true;
  sections =
      record { address = 0x8000_0000; bytes = little_bytes 4 0xfea5_065b }
      ∷ record { address = 0x8000_0004; bytes = little_bytes 4 0x00c5_c023 }
      ∷ [];
  capabilities = [];
}

-- what is lent: 16 bytes with Load and Store, without Global
abbrev pub loan : CapValue
loan = Cap (record_with 0x8000_0800 0x8000_0810 0x8000_0800 0xc false unsealed_type)

-- the borrower's code in capability mode: 256 bytes, with Global, Execute, Load and Load_Capability
abbrev pub borrower_code : CapValue
borrower_code = Cap (record_with 0x8000_0000 0x8000_0100 0x8000_0000 0x17 true unsealed_type)

-- The image is opened with the loan in ca0 and the borrower's data in ca1, which has no Store_Local_Capability; PCC is narrowed, and DDC
-- is null.
unfoldable pub borrower : State
borrower =
    record (opening loan_image) {
      registers = with_register (with_register null_registers 10 loan) 11 data_capability;
      scrs = record (opening_scrs loan_image) { pcc = borrower_code; ddc = null };
    }

-- the move; the store traps
abbrev pub move : List Event
move = Step ∷ []

abbrev pub trapped : State
trapped = after Step (run_after move borrower)

-- the borrower again, when the kernel has cleared it: of registers it has its data alone
unfoldable pub cleared : State
cleared =
    record trapped {
      registers = with_register null_registers 11 data_capability;
      scrs = record trapped.scrs { pcc = borrower_code; ddc = null };
    }
