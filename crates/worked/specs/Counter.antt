-- A compartment that counts: a state that the laws on confined code, on plain runs, on two worlds and on policies speak of.
use Rattle.std.specs.Prelude.{ℕ, false, List, [], ◌∷◌, Some}
use Rattle.std.specs.List.{flat_map}
use Rattle.byteorder.specs.Endian.{little_bytes}
use Rattle.base.specs.ObjectType.{unsealed_type}
use Rattle.cap_bounds.specs.CapValue.{CapValue, Cap}
use Rattle.cap_bounds.specs.Record.{record_with}
use Rattle.image.specs.Image.{Image}
use Rattle.steps.specs.declared.event.Event.{Event}
use Rattle.steps.specs.declared.event.Event.TheVariants.{Step}
use Rattle.steps.specs.State.{State}
use Rattle.hart.specs.Opening.{opening, opening_scrs}
use Rattle.reach.specs.declared.range.Range.{Range}
use Rattle.policy.specs.Terms.{Terms}

-- addi a0, a0, 1; auipc a1, 0; sw a0, 252(a1); jal zero, -12: it adds 1 to a0, stores a0 at 0x8000_0100 through DDC, and begins again
abbrev pub code : List ℕ
code = flat_map (little_bytes 4) (0x0015_0513 ∷ 0x0000_0597 ∷ 0x0ea5_ae23 ∷ 0xff5f_f06f ∷ [])

-- RAM of one page. It begins with the code; at 0x8000_0400 lies a byte of somebody else, and at 0x8000_0800 a capability to all of RAM.
abbrev pub image : ℕ → Image
image secret = record {
  version = 2;
  pages = 1;
  entry = 0x8000_0000;
  mode = false;
  sections = record { address = 0x8000_0000; bytes = code } ∷ record { address = 0x8000_0400; bytes = secret ∷ [] } ∷ [];
  capabilities = record { place = 0x8000_0800; base = 0x8000_0000; length = 0x1000; perms = 0xffff; flag = 0 } ∷ [];
}

-- 256 bytes of code, with Global, Execute, Load and Load_Capability
abbrev pub code_capability : CapValue
code_capability = Cap (record_with 0x8000_0000 0x8000_0100 0x8000_0000 0x17 false unsealed_type)

-- 256 bytes of data after them, with Global, Load, Store, Load_Capability and Store_Capability
abbrev pub data_capability : CapValue
data_capability = Cap (record_with 0x8000_0100 0x8000_0200 0x8000_0100 0x3d false unsealed_type)

abbrev pub two_capabilities : List CapValue
two_capabilities = code_capability ∷ data_capability ∷ []

-- The image is opened, and then PCC and DDC are narrowed: registers are null, MTCC and MEPCC are root.
unfoldable pub counter : ℕ → State
counter secret =
    record (opening (image secret)) {
      scrs = record (opening_scrs (image secret)) { pcc = code_capability; ddc = data_capability };
    }

-- its four instructions, once
abbrev pub round : List Event
round = Step ∷ Step ∷ Step ∷ Step ∷ []

abbrev pub code_range : Range
code_range = record { from = 0x8000_0000; to = 0x8000_0100 }

abbrev pub data_range : Range
data_range = record { from = 0x8000_0100; to = 0x8000_0200 }

-- a rule for its code: to store in its data, to load there and in its code, to fetch its code, and nothing more; nothing lent is kept
abbrev pub counter_rule : Terms
counter_rule = record {
  code = code_range ∷ [];
  store = data_range ∷ [];
  load = code_range ∷ data_range ∷ [];
  execute = code_range ∷ [];
  keep = [];
  enter = [];
  transmit = false;
  halt = false;
  timer = false;
  system = false;
  seal = false;
  types = Some [];
  or_caller = false;
}
