-- Filling all the slots of a row gives the instruction, whose other fields are 0.
use Rattle.std.proofs.Common.{◌≡◌, ℕ, ◌≤◌, Bool, true, false, not, ◌&&◌, ◌||◌, cond, List, [], ◌∷◌, Option, Some, None, refl, sym, ap, ◌∙◌}
use Rattle.std.proofs.Common.{arith, length}
use Rattle.std.specs.Prelude.{nat_le}
use Rattle.std.proofs.lemmas.Bool.Decides.{nat_tests}
use Rattle.isa_rows.specs.declared.formats.Format.{Format}
use Rattle.isa_rows.specs.declared.operands.Insn.{Insn}
use Rattle.isa_rows.specs.declared.rows.Row.{Row}
use Rattle.isa_rows.specs.declared.rows.Row.TheVariants.{Lui}
use Rattle.isa_rows.specs.Line.{line_of}
use Rattle.isa_rows.specs.Insn.{insn}
use Rattle.isa_rows.specs.Operands.{OperandsFit}
use Rattle.isa_rows.specs.declared.slots.Slot.{Slot}
use Rattle.isa_rows.specs.declared.slots.Slot.TheVariants.{Rd, Rs1, Rs2, Signed, Unsigned, Upper, Small, Csr, Special, Address, Authority}
use Rattle.isa_rows.specs.declared.slots.Slot.TheVariants.{Target}
use Rattle.asm_names.specs.Slots.{slots_of}
use Rattle.asm_lines.specs.Number.{Expression}
use Rattle.asm_lines.specs.Operand.{Draft}
use Rattle.asm_lines.specs.Statement.{Statement, instruction, row}
use Rattle.text_laws.specs.ReadBack.{is_target, has_target, distance_to}
use Rattle.text_laws.proofs.SlotBack.{with_slot}
use Rattle.text_laws.proofs.Fields.{lacks_rd, lacks_rs1, lacks_rs2, lacks_imm, NoneIf, fields_of, slots_suit, with_slots}

-- the fields that a slot fills
abbrev fills_rd : Slot → Bool
fills_rd (Rd naming) = true
fills_rd _ = false

abbrev fills_rs1 : Slot → Bool
fills_rs1 (Rs1 naming) = true
fills_rs1 Small = true
fills_rs1 (Address naming) = true
fills_rs1 (Authority naming) = true
fills_rs1 _ = false

abbrev fills_rs2 : Slot → Bool
fills_rs2 (Rs2 naming) = true
fills_rs2 Special = true
fills_rs2 _ = false

abbrev fills_imm : Slot → Bool
fills_imm Signed = true
fills_imm (Unsigned bits) = true
fills_imm Upper = true
fills_imm Csr = true
fills_imm (Address naming) = true
fills_imm _ = false

abbrev any : (Slot → Bool) → List Slot → Bool
any p [] = false
any p (s ∷ ss) = p s || any p ss

abbrev draft : Row → ℕ → ℕ → ℕ → ℕ → Option Expression → Draft
draft r rd rs1 rs2 imm target = record { insn = insn r rd rs1 rs2 imm; target = target }

-- a draft with the fields of an instruction that some slots fill
abbrev filled : Insn → List Slot → Draft → Draft
filled i ss d =
    draft d.insn.row (cond (any fills_rd ss) i.rd d.insn.rd) (cond (any fills_rs1 ss) i.rs1 d.insn.rs1)
    (cond (any fills_rs2 ss) i.rs2 d.insn.rs2)
    (cond (any fills_imm ss) i.imm d.insn.imm) (cond (any is_target ss) (Some (distance_to i.imm)) d.target)

same : {A : Type 0} (t : Bool) (a : A) → cond t a a ≡ a
same true a = refl
same false a = refl

with_slots-filled : (i : Insn) (ss : List Slot) (d : Draft) → with_slots i ss d ≡ filled i ss d
with_slots-filled i [] d = refl
with_slots-filled i (Rd naming ∷ ss) d =
    let h = with_slots-filled i ss (with_slot i (Rd naming) d) in let e = same (any fills_rd ss) i.rd in cc
with_slots-filled i (Rs1 naming ∷ ss) d =
    let h = with_slots-filled i ss (with_slot i (Rs1 naming) d) in let e = same (any fills_rs1 ss) i.rs1 in cc
with_slots-filled i (Rs2 naming ∷ ss) d =
    let h = with_slots-filled i ss (with_slot i (Rs2 naming) d) in let e = same (any fills_rs2 ss) i.rs2 in cc
with_slots-filled i (Signed ∷ ss) d =
    let h = with_slots-filled i ss (with_slot i Signed d) in let e = same (any fills_imm ss) i.imm in cc
with_slots-filled i (Unsigned bits ∷ ss) d =
    let h = with_slots-filled i ss (with_slot i (Unsigned bits) d) in let e = same (any fills_imm ss) i.imm in cc
with_slots-filled i (Upper ∷ ss) d =
    let h = with_slots-filled i ss (with_slot i Upper d) in let e = same (any fills_imm ss) i.imm in cc
with_slots-filled i (Small ∷ ss) d =
    let h = with_slots-filled i ss (with_slot i Small d) in let e = same (any fills_rs1 ss) i.rs1 in cc
with_slots-filled i (Csr ∷ ss) d =
    let h = with_slots-filled i ss (with_slot i Csr d) in let e = same (any fills_imm ss) i.imm in cc
with_slots-filled i (Special ∷ ss) d =
    let h = with_slots-filled i ss (with_slot i Special d) in let e = same (any fills_rs2 ss) i.rs2 in cc
with_slots-filled i (Address naming ∷ ss) d =
    let h = with_slots-filled i ss (with_slot i (Address naming) d) in
    let e = same (any fills_rs1 ss) i.rs1 in
    let k = same (any fills_imm ss) i.imm in
    cc
with_slots-filled i (Authority naming ∷ ss) d =
    let h = with_slots-filled i ss (with_slot i (Authority naming) d) in let e = same (any fills_rs1 ss) i.rs1 in cc
with_slots-filled i (Target bits ∷ ss) d =
    let h = with_slots-filled i ss (with_slot i (Target bits) d) in let e = same (any is_target ss) (Some (distance_to i.imm)) in cc

-- each field of a format is filled, or else 0
abbrev pub covers : Format → List Slot → Bool
covers f ss = (any fills_rd ss || lacks_rd f) && ((any fills_rs1 ss || lacks_rs1 f) && (any fills_rs2 ss || lacks_rs2 f))

-- the immediate is filled, or 0, or else it is the distance to the one target
abbrev pub covers_imm : Format → List Slot → Bool
covers_imm f ss = cond (has_target ss) (not (any fills_imm ss)) (any fills_imm ss || lacks_imm f)

covered : (fills lacks : Bool) (n : ℕ) → (fills || lacks) ≡ true → NoneIf lacks n → cond fills n 0 ≡ n
covered true lacks n t h = refl
covered false true n t h = sym h
covered false false n t h = cc

any-has_target : (ss : List Slot) → any is_target ss ≡ has_target ss
any-has_target [] = refl
any-has_target (s ∷ ss) = ap (λ t. is_target s || t) (any-has_target ss)

-- the statement of a draft, where a row's operands have a target among them or not
abbrev pub stated : Bool → Insn → Statement
stated target i = instruction (cond target (row (record i { imm = 0 }) (Some (distance_to i.imm))) (row i None))

abbrev pub statement_of_draft : Draft → Statement
statement_of_draft d = instruction (row d.insn d.target)

abbrev pub nought : Row → Draft
nought r = record { insn = insn r 0 0 0 0; target = None }

statement_filled : (target fills : Bool) (f : Format) (i : Insn) → cond target (not fills) (fills || lacks_imm f) ≡ true
    → NoneIf (lacks_imm f) i.imm
    → instruction (row (insn i.row i.rd i.rs1 i.rs2 (cond fills i.imm 0)) (cond target (Some (distance_to i.imm)) None)) ≡ stated target i
statement_filled true true f i t h = cc
statement_filled true false f i t h = refl
statement_filled false fills f i t h =
    ap (λ n. instruction (row (insn i.row i.rd i.rs1 i.rs2 n) None)) (covered fills (lacks_imm f) i.imm t h)

pub statement_back : (f : Format) (i : Insn) (ss : List Slot) → covers f ss ≡ true → covers_imm f ss ≡ true → OperandsFit f i
    → statement_of_draft (with_slots i ss (nought i.row)) ≡ stated (has_target ss) i
statement_back f i ss t u h =
    let k = fields_of f i h in
    let a = covered (any fills_rd ss) (lacks_rd f) i.rd (grind (arith, nat_tests)) k.rd_none in
    let b = covered (any fills_rs1 ss) (lacks_rs1 f) i.rs1 (grind (arith, nat_tests)) k.rs1_none in
    let c = covered (any fills_rs2 ss) (lacks_rs2 f) i.rs2 (grind (arith, nat_tests)) k.rs2_none in
    let e = any-has_target ss in
    ap statement_of_draft (with_slots-filled i ss (nought i.row))
    ∙ (λ j. instruction (row (insn i.row (a j) (b j) (c j) (cond (any fills_imm ss) i.imm 0)) (cond (e j) (Some (distance_to i.imm)) None)))
    ∙ statement_filled (has_target ss) (any fills_imm ss) f i u k.imm_none

-- what the table of rows must keep
abbrev row_suits : Row → Bool
row_suits r =
    slots_suit (line_of r).format (slots_of r) &&
    (covers (line_of r).format (slots_of r) && (covers_imm (line_of r).format (slots_of r) && nat_le (length (slots_of r)) 3))

rows_suit : (r : Row) → row_suits r ≡ true
unfolding line_of
rows_suit Lui = refl
rows_suit _ = refl

pub record RowSuits (f : Format) (ss : List Slot) : Type 0 where
  pub suit : slots_suit f ss ≡ true
  pub cover : covers f ss ≡ true
  pub cover_imm : covers_imm f ss ≡ true
  pub few : length ss ≤ 3

parts : (a b c : Bool) (n : ℕ) → (a && (b && (c && nat_le n 3))) ≡ true → (a ≡ true) × (b ≡ true) × (c ≡ true) × (n ≤ 3)
parts a b c n h = (grind (arith, nat_tests), grind (arith, nat_tests), grind (arith, nat_tests), grind (arith, nat_tests))

pub row_suits_all : (r : Row) → RowSuits (line_of r).format (slots_of r)
row_suits_all r =
    let p = parts (slots_suit (line_of r).format (slots_of r)) (covers (line_of r).format (slots_of r))
    (covers_imm (line_of r).format (slots_of r)) (length (slots_of r)) (rows_suit r) in
    record { suit = p.0; cover = p.1; cover_imm = p.2; few = p.3 }
