-- The fields of an instruction by its row's format, and its operands by its row's slots.
use Rattle.std.proofs.Common.{◌≡◌, ℕ, ◌^◌, ◌<◌, inl, inr, Bool, true, false, ◌&&◌, List, [], ◌∷◌, map, None, refl, sym, ap, subst, ◌∙◌}
use Rattle.std.proofs.Common.{arith}
use Rattle.std.specs.Prelude.{◌==◌}
use Rattle.std.proofs.lemmas.Bool.Decides.{nat_tests}
use Rattle.isa_rows.specs.declared.formats.Format.{Format}
use Rattle.isa_rows.specs.declared.formats.Format.TheVariants.{Upper as FUpper, Jump as FJump, Immediate as FImmediate}
use Rattle.isa_rows.specs.declared.formats.Format.TheVariants.{Unsigned as FUnsigned, Store as FStore, Branch as FBranch, Shift6 as FShift6}
use Rattle.isa_rows.specs.declared.formats.Format.TheVariants.{Shift5 as FShift5, Register as FRegister, Whole as FWhole, Unary as FUnary}
use Rattle.isa_rows.specs.declared.formats.Format.TheVariants.{Pair as FPair}
use Rattle.isa_rows.specs.declared.operands.Insn.{Insn}
use Rattle.isa_rows.specs.Operands.{IsSignedOf, IsUpperImmediate, OperandsFit}
use Rattle.isa_rows.specs.declared.slots.Slot.{Slot}
use Rattle.isa_rows.specs.declared.slots.Slot.TheVariants.{Rd, Rs1, Rs2, Signed, Unsigned, Upper, Small, Csr, Special, Address, Authority}
use Rattle.isa_rows.specs.declared.slots.Slot.TheVariants.{Target}
use Rattle.asm_lines.specs.Operand.{Draft, fault_of, told_fault, draft_after, filled_draft, filled_fault}
use Rattle.disassembler.specs.Shown.{shown_slot}
use Rattle.text_laws.proofs.SlotBack.{SlotFits, with_slot, slot_back}

-- the fields that a format has not
abbrev pub lacks_rd : Format → Bool
lacks_rd FUpper = false
lacks_rd FJump = false
lacks_rd FImmediate = false
lacks_rd FUnsigned = false
lacks_rd FStore = true
lacks_rd FBranch = true
lacks_rd FShift6 = false
lacks_rd FShift5 = false
lacks_rd FRegister = false
lacks_rd FWhole = true
lacks_rd FUnary = false
lacks_rd FPair = true

abbrev pub lacks_rs1 : Format → Bool
lacks_rs1 FUpper = true
lacks_rs1 FJump = true
lacks_rs1 FImmediate = false
lacks_rs1 FUnsigned = false
lacks_rs1 FStore = false
lacks_rs1 FBranch = false
lacks_rs1 FShift6 = false
lacks_rs1 FShift5 = false
lacks_rs1 FRegister = false
lacks_rs1 FWhole = true
lacks_rs1 FUnary = false
lacks_rs1 FPair = false

abbrev pub lacks_rs2 : Format → Bool
lacks_rs2 FUpper = true
lacks_rs2 FJump = true
lacks_rs2 FImmediate = true
lacks_rs2 FUnsigned = true
lacks_rs2 FStore = false
lacks_rs2 FBranch = false
lacks_rs2 FShift6 = true
lacks_rs2 FShift5 = true
lacks_rs2 FRegister = false
lacks_rs2 FWhole = true
lacks_rs2 FUnary = true
lacks_rs2 FPair = false

abbrev pub lacks_imm : Format → Bool
lacks_imm FUpper = false
lacks_imm FJump = false
lacks_imm FImmediate = false
lacks_imm FUnsigned = false
lacks_imm FStore = false
lacks_imm FBranch = false
lacks_imm FShift6 = false
lacks_imm FShift5 = false
lacks_imm FRegister = true
lacks_imm FWhole = true
lacks_imm FUnary = true
lacks_imm FPair = true

abbrev pub NoneIf : Bool → ℕ → Type 0
NoneIf true n = n ≡ 0
NoneIf false n = Unit {0}

-- what is known of the fields of an instruction of a format
pub record Fields (f : Format) (i : Insn) : Type 0 where
  pub rd_below : i.rd < 32
  pub rs1_below : i.rs1 < 32
  pub rs2_below : i.rs2 < 32
  pub imm_below : i.imm < 2 ^ 64
  pub rd_none : NoneIf (lacks_rd f) i.rd
  pub rs1_none : NoneIf (lacks_rs1 f) i.rs1
  pub rs2_none : NoneIf (lacks_rs2 f) i.rs2
  pub imm_none : NoneIf (lacks_imm f) i.imm

signed_12_below : (n : ℕ) → IsSignedOf 12 n → n < 2 ^ 64
signed_12_below n h = elim h [ inl p ↦ omega arith | inr p ↦ omega (arith, p.1) ]

signed_13_below : (n : ℕ) → IsSignedOf 13 n → n < 2 ^ 64
signed_13_below n h = elim h [ inl p ↦ omega arith | inr p ↦ omega (arith, p.1) ]

signed_21_below : (n : ℕ) → IsSignedOf 21 n → n < 2 ^ 64
signed_21_below n h = elim h [ inl p ↦ omega arith | inr p ↦ omega (arith, p.1) ]

signed_32_below : (n : ℕ) → IsSignedOf 32 n → n < 2 ^ 64
signed_32_below n h = elim h [ inl p ↦ omega arith | inr p ↦ omega (arith, p.1) ]

pub fields_of : (f : Format) (i : Insn) → OperandsFit f i → Fields f i
unfolding OperandsFit
fields_of FUpper i h =
    record {
      rd_below = omega (arith, h.rd_below);
      rs1_below = omega (arith, h.rs1_below);
      rs2_below = omega (arith, h.rs2_below);
      imm_below = signed_32_below i.imm h.imm_is.1;
      rd_none = tt;
      rs1_none = omega (arith, h.rs1_below);
      rs2_none = omega (arith, h.rs2_below);
      imm_none = tt;
    }
fields_of FJump i h =
    record {
      rd_below = omega (arith, h.rd_below);
      rs1_below = omega (arith, h.rs1_below);
      rs2_below = omega (arith, h.rs2_below);
      imm_below = signed_21_below i.imm h.imm_is.1;
      rd_none = tt;
      rs1_none = omega (arith, h.rs1_below);
      rs2_none = omega (arith, h.rs2_below);
      imm_none = tt;
    }
fields_of FImmediate i h =
    record {
      rd_below = omega (arith, h.rd_below);
      rs1_below = omega (arith, h.rs1_below);
      rs2_below = omega (arith, h.rs2_below);
      imm_below = signed_12_below i.imm h.imm_is;
      rd_none = tt;
      rs1_none = tt;
      rs2_none = omega (arith, h.rs2_below);
      imm_none = tt;
    }
fields_of FUnsigned i h =
    record {
      rd_below = omega (arith, h.rd_below);
      rs1_below = omega (arith, h.rs1_below);
      rs2_below = omega (arith, h.rs2_below);
      imm_below = omega (arith, h.imm_is);
      rd_none = tt;
      rs1_none = tt;
      rs2_none = omega (arith, h.rs2_below);
      imm_none = tt;
    }
fields_of FStore i h =
    record {
      rd_below = omega (arith, h.rd_below);
      rs1_below = omega (arith, h.rs1_below);
      rs2_below = omega (arith, h.rs2_below);
      imm_below = signed_12_below i.imm h.imm_is;
      rd_none = omega (arith, h.rd_below);
      rs1_none = tt;
      rs2_none = tt;
      imm_none = tt;
    }
fields_of FBranch i h =
    record {
      rd_below = omega (arith, h.rd_below);
      rs1_below = omega (arith, h.rs1_below);
      rs2_below = omega (arith, h.rs2_below);
      imm_below = signed_13_below i.imm h.imm_is.1;
      rd_none = omega (arith, h.rd_below);
      rs1_none = tt;
      rs2_none = tt;
      imm_none = tt;
    }
fields_of FShift6 i h =
    record {
      rd_below = omega (arith, h.rd_below);
      rs1_below = omega (arith, h.rs1_below);
      rs2_below = omega (arith, h.rs2_below);
      imm_below = omega (arith, h.imm_is);
      rd_none = tt;
      rs1_none = tt;
      rs2_none = omega (arith, h.rs2_below);
      imm_none = tt;
    }
fields_of FShift5 i h =
    record {
      rd_below = omega (arith, h.rd_below);
      rs1_below = omega (arith, h.rs1_below);
      rs2_below = omega (arith, h.rs2_below);
      imm_below = omega (arith, h.imm_is);
      rd_none = tt;
      rs1_none = tt;
      rs2_none = omega (arith, h.rs2_below);
      imm_none = tt;
    }
fields_of FRegister i h =
    record {
      rd_below = omega (arith, h.rd_below);
      rs1_below = omega (arith, h.rs1_below);
      rs2_below = omega (arith, h.rs2_below);
      imm_below = omega (arith, h.imm_is);
      rd_none = tt;
      rs1_none = tt;
      rs2_none = tt;
      imm_none = omega (arith, h.imm_is);
    }
fields_of FWhole i h =
    record {
      rd_below = omega (arith, h.rd_below);
      rs1_below = omega (arith, h.rs1_below);
      rs2_below = omega (arith, h.rs2_below);
      imm_below = omega (arith, h.imm_is);
      rd_none = omega (arith, h.rd_below);
      rs1_none = omega (arith, h.rs1_below);
      rs2_none = omega (arith, h.rs2_below);
      imm_none = omega (arith, h.imm_is);
    }
fields_of FUnary i h =
    record {
      rd_below = omega (arith, h.rd_below);
      rs1_below = omega (arith, h.rs1_below);
      rs2_below = omega (arith, h.rs2_below);
      imm_below = omega (arith, h.imm_is);
      rd_none = tt;
      rs1_none = tt;
      rs2_none = omega (arith, h.rs2_below);
      imm_none = omega (arith, h.imm_is);
    }
fields_of FPair i h =
    record {
      rd_below = omega (arith, h.rd_below);
      rs1_below = omega (arith, h.rs1_below);
      rs2_below = omega (arith, h.rs2_below);
      imm_below = omega (arith, h.imm_is);
      rd_none = omega (arith, h.rd_below);
      rs1_none = tt;
      rs2_none = tt;
      imm_none = omega (arith, h.imm_is);
    }

-- the immediate of a format is in a slot's range
abbrev pub is_signed_format : Format → Bool
is_signed_format FImmediate = true
is_signed_format FStore = true
is_signed_format _ = false

abbrev pub is_unsigned_format : Format → ℕ → Bool
is_unsigned_format FUnsigned bits = bits == 12
is_unsigned_format FShift6 bits = bits == 6
is_unsigned_format FShift5 bits = bits == 5
is_unsigned_format _ bits = false

abbrev pub is_upper_format : Format → Bool
is_upper_format FUpper = true
is_upper_format _ = false

abbrev pub slot_suits : Format → Slot → Bool
slot_suits f (Rd naming) = true
slot_suits f (Rs1 naming) = true
slot_suits f (Rs2 naming) = true
slot_suits f Signed = is_signed_format f
slot_suits f (Unsigned bits) = is_unsigned_format f bits
slot_suits f Upper = is_upper_format f
slot_suits f Small = true
slot_suits f Csr = is_unsigned_format f 12
slot_suits f Special = true
slot_suits f (Address naming) = is_signed_format f
slot_suits f (Authority naming) = true
slot_suits f (Target bits) = true

signed_suits : (f : Format) (i : Insn) → is_signed_format f ≡ true → OperandsFit f i → IsSignedOf 12 i.imm
unfolding OperandsFit
signed_suits FImmediate i t h = h.imm_is
signed_suits FStore i t h = h.imm_is
signed_suits _ i t h = cc

below_bits : (n a b : ℕ) → a ≡ b → n < 2 ^ b → n < 2 ^ a
below_bits n a b e h = subst (λ k. n < 2 ^ k) (sym e) h

unsigned_suits : (f : Format) (bits : ℕ) (i : Insn) → is_unsigned_format f bits ≡ true → OperandsFit f i → i.imm < 2 ^ bits
unfolding OperandsFit
unsigned_suits FUnsigned bits i t h = below_bits i.imm bits 12 (grind (arith, nat_tests)) h.imm_is
unsigned_suits FShift6 bits i t h = below_bits i.imm bits 6 (grind (arith, nat_tests)) h.imm_is
unsigned_suits FShift5 bits i t h = below_bits i.imm bits 5 (grind (arith, nat_tests)) h.imm_is
unsigned_suits _ bits i t h = cc

upper_suits : (f : Format) (i : Insn) → is_upper_format f ≡ true → OperandsFit f i → IsUpperImmediate i.imm
unfolding OperandsFit
upper_suits FUpper i t h = h.imm_is
upper_suits _ i t h = cc

slot_fits : (f : Format) (s : Slot) (i : Insn) → slot_suits f s ≡ true → OperandsFit f i → SlotFits s i
slot_fits f (Rd naming) i t h = (fields_of f i h).rd_below
slot_fits f (Rs1 naming) i t h = (fields_of f i h).rs1_below
slot_fits f (Rs2 naming) i t h = (fields_of f i h).rs2_below
slot_fits f Signed i t h = signed_suits f i t h
slot_fits f (Unsigned bits) i t h = (unsigned_suits f bits i t h, (fields_of f i h).imm_below)
slot_fits f Upper i t h = upper_suits f i t h
slot_fits f Small i t h = (fields_of f i h).rs1_below
slot_fits f Csr i t h = omega (arith, unsigned_suits f 12 i t h)
slot_fits f Special i t h = (fields_of f i h).rs2_below
slot_fits f (Address naming) i t h = (signed_suits f i t h, (fields_of f i h).rs1_below)
slot_fits f (Authority naming) i t h = (fields_of f i h).rs1_below
slot_fits f (Target bits) i t h = (fields_of f i h).imm_below

abbrev pub slots_suit : Format → List Slot → Bool
slots_suit f [] = true
slots_suit f (s ∷ ss) = slot_suits f s && slots_suit f ss

abbrev pub SlotsFit : List Slot → Insn → Type 0
SlotsFit [] i = Unit {0}
SlotsFit (s ∷ ss) i = SlotFits s i × SlotsFit ss i

pub slots_fit : (f : Format) (ss : List Slot) (i : Insn) → slots_suit f ss ≡ true → OperandsFit f i → SlotsFit ss i
slots_fit f [] i t h = tt
slots_fit f (s ∷ ss) i t h = (slot_fits f s i (grind (arith, nat_tests)) h, slots_fit f ss i (grind (arith, nat_tests)) h)

-- the draft with all operands of an instruction
abbrev pub with_slots : Insn → List Slot → Draft → Draft
with_slots i [] d = d
with_slots i (s ∷ ss) d = with_slots i ss (with_slot i s d)

pub drafts_back : (mode : Bool) (i : Insn) (ss : List Slot) (d : Draft) → SlotsFit ss i
    → filled_draft ss (map (shown_slot mode i) ss) d ≡ with_slots i ss d
drafts_back mode i [] d h = refl
drafts_back mode i (s ∷ ss) d h =
    ap (λ r. filled_draft ss (map (shown_slot mode i) ss) (draft_after d r)) (slot_back mode i s d h.0)
    ∙ drafts_back mode i ss (with_slot i s d) h.1

pub faults_back : (mode : Bool) (i : Insn) (ss : List Slot) (d : Draft) → SlotsFit ss i
    → filled_fault ss (map (shown_slot mode i) ss) d ≡ None
faults_back mode i [] d h = refl
faults_back mode i (s ∷ ss) d h =
    ap (λ r. told_fault (fault_of r) (filled_fault ss (map (shown_slot mode i) ss) (draft_after d r))) (slot_back mode i s d h.0)
    ∙ faults_back mode i ss (with_slot i s d) h.1
