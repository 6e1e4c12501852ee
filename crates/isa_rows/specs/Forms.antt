-- The forms in which operands are written, each the slots of a row in order (unprivileged manual, assembly listings; CHERI ISA version 9,
-- instruction pages).
use Rattle.std.specs.Prelude.{ℕ, List, [], ◌∷◌}
use Rattle.isa_rows.specs.declared.slots.Naming.{Naming}
use Rattle.isa_rows.specs.declared.slots.Naming.TheVariants.{Integer, Capability, ByMode}
use Rattle.isa_rows.specs.declared.slots.Slot.{Slot}
use Rattle.isa_rows.specs.declared.slots.Slot.TheVariants.{Rd, Rs1, Rs2, Signed, Unsigned, Upper, Small, Csr, Special, Address, Authority}
use Rattle.isa_rows.specs.declared.slots.Slot.TheVariants.{Target}

-- rd, rs1, rs2
abbrev pub integers : List Slot
integers = Rd Integer ∷ Rs1 Integer ∷ Rs2 Integer ∷ []

-- rd, rs1, imm
abbrev pub immediate : List Slot
immediate = Rd Integer ∷ Rs1 Integer ∷ Signed ∷ []

abbrev pub shift : ℕ → List Slot
shift bits = Rd Integer ∷ Rs1 Integer ∷ Unsigned bits ∷ []

-- rd, imm; the result of auipc is a capability in capability mode
abbrev pub upper : List Slot
upper = Rd Integer ∷ Upper ∷ []

abbrev pub upper_link : List Slot
upper_link = Rd ByMode ∷ Upper ∷ []

-- rs1, rs2, target
abbrev pub branch : List Slot
branch = Rs1 Integer ∷ Rs2 Integer ∷ Target 13 ∷ []

-- rd, target
abbrev pub jump : List Slot
jump = Rd ByMode ∷ Target 21 ∷ []

-- rd, imm(rs1)
abbrev pub jump_register : List Slot
jump_register = Rd ByMode ∷ Address ByMode ∷ []

abbrev pub load : List Slot
load = Rd Integer ∷ Address ByMode ∷ []

abbrev pub load_capability : List Slot
load_capability = Rd Capability ∷ Address ByMode ∷ []

-- rs2, imm(rs1)
abbrev pub store : List Slot
store = Rs2 Integer ∷ Address ByMode ∷ []

abbrev pub store_capability : List Slot
store_capability = Rs2 Capability ∷ Address ByMode ∷ []

-- rd, csr, rs1 and rd, csr, imm
abbrev pub csr_register : List Slot
csr_register = Rd Integer ∷ Csr ∷ Rs1 Integer ∷ []

abbrev pub csr_immediate : List Slot
csr_immediate = Rd Integer ∷ Csr ∷ Small ∷ []

-- cd, cs1, rs2
abbrev pub derived : List Slot
derived = Rd Capability ∷ Rs1 Capability ∷ Rs2 Integer ∷ []

-- cd, cs1, imm
abbrev pub derived_by : Slot → List Slot
derived_by number = Rd Capability ∷ Rs1 Capability ∷ number ∷ []

-- cd, cs1, cs2
abbrev pub sealed : List Slot
sealed = Rd Capability ∷ Rs1 Capability ∷ Rs2 Capability ∷ []

-- rd, cs1, cs2
abbrev pub compared : List Slot
compared = Rd Integer ∷ Rs1 Capability ∷ Rs2 Capability ∷ []

-- rd, cs1
abbrev pub inspected : List Slot
inspected = Rd Integer ∷ Rs1 Capability ∷ []

-- rd, rs1
abbrev pub rounded : List Slot
rounded = Rd Integer ∷ Rs1 Integer ∷ []

-- cd, cs1
abbrev pub copied : List Slot
copied = Rd Capability ∷ Rs1 Capability ∷ []

-- cs1, cs2
abbrev pub invoked : List Slot
invoked = Rs1 Capability ∷ Rs2 Capability ∷ []

-- cd, scr, cs1
abbrev pub special : List Slot
special = Rd Capability ∷ Special ∷ Rs1 Capability ∷ []

-- the explicit forms: rd, (rs1) and rs2, (rs1)
abbrev pub explicit_load : Naming → Naming → List Slot
explicit_load value authority = Rd value ∷ Authority authority ∷ []

abbrev pub explicit_store : Naming → Naming → List Slot
explicit_store value authority = Rs2 value ∷ Authority authority ∷ []

-- no operands
abbrev pub none : List Slot
none = []
