-- How long a shown operand can be.
use Rattle.std.specs.Prelude.{ℕ, ◌+◌, ◌<◌, List, [], ◌∷◌}
use Rattle.isa_rows.specs.declared.operands.Insn.{Insn}
use Rattle.isa_rows.specs.declared.slots.Slot.{Slot}
use Rattle.isa_rows.specs.declared.slots.Slot.TheVariants.{Rd, Rs1, Rs2, Signed, Unsigned, Upper, Small, Csr, Special, Address, Authority}
use Rattle.isa_rows.specs.declared.slots.Slot.TheVariants.{Target}

-- the registers that an instruction names are below 32
pub record HasRegisters (i : Insn) : Type 0 where
  pub rd_below : i.rd < 32
  pub rs1_below : i.rs1 < 32
  pub rs2_below : i.rs2 < 32

-- the most bytes of one operand
abbrev pub slot_width : Slot → ℕ
slot_width (Rd naming) = 5
slot_width (Rs1 naming) = 5
slot_width (Rs2 naming) = 5
slot_width Signed = 20
slot_width (Unsigned bits) = 20
slot_width Upper = 18
slot_width Small = 20
slot_width Csr = 18
slot_width Special = 20
slot_width (Address naming) = 27
slot_width (Authority naming) = 7
slot_width (Target bits) = 22

-- of operands that each stand after a comma and a space, and of all operands of a row
abbrev pub rest_width : List Slot → ℕ
rest_width [] = 0
rest_width (s ∷ ss) = 2 + slot_width s + rest_width ss

abbrev pub operands_width : List Slot → ℕ
operands_width [] = 0
operands_width (s ∷ ss) = 1 + slot_width s + rest_width ss
