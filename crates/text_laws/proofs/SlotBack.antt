-- An operand that is shown, read, fills its slot with what the instruction has there.
use Rattle.std.proofs.Common.{◌≡◌, ℕ, suc, ◌-◌, ◌*◌, ◌/◌, ◌%◌, ◌^◌, ◌<◌, ◌≤◌, inl, inr, Bool, true, false, cond, List, [], ◌∷◌, ◌++◌, Some}
use Rattle.std.proofs.Common.{refl, sym, ap, subst, ◌∙◌, ◌⊎◌, append_assoc, arith, length, length-append}
use Rattle.std.proofs.lemmas.Bool.{cases_lt}
use Rattle.std.specs.Prelude.{pos, negsuc, neg_ℤ, Ok, nat_lt, decimal, codes, min}
use Rattle.std.specs.Int.{w64, cast_signed}
use Rattle.std.proofs.lemmas.Bool.Decides.{nat_tests}
use Rattle.isa_rows.specs.declared.operands.Insn.{Insn}
use Rattle.isa_rows.specs.Insn.{sign_extended}
use Rattle.isa_rows.specs.Operands.{IsSignedOf, IsUpperImmediate}
use Rattle.isa_rows.specs.declared.slots.Naming.{Naming}
use Rattle.isa_rows.specs.declared.slots.Slot.{Slot}
use Rattle.isa_rows.specs.declared.slots.Slot.TheVariants.{Rd, Rs1, Rs2, Signed, Unsigned, Upper, Small, Csr, Special, Address, Authority}
use Rattle.isa_rows.specs.declared.slots.Slot.TheVariants.{Target}
use Rattle.asm_lines.specs.Text.{here_name}
use Rattle.asm_lines.specs.Number.{expression, number_of, expression_of, named_plus, named_minus}
use Rattle.asm_lines.specs.Ranges.{most_of}
use Rattle.asm_lines.specs.Operand.{Draft, wrapped, up_to, signed_12, with_rd, with_rs1, with_rs2, with_imm, with_upper, with_small}
use Rattle.asm_lines.specs.Operand.{with_special, with_target, with_address, filled_slot}
use Rattle.disassembler.specs.Shown.{shown_register, shown_signed, shown_target, shown_slot}
use Rattle.text_laws.specs.ReadBack.{distance_to}
use Rattle.text_laws.proofs.Cut.{every, every-append, is_plain, IsPlain}
use Rattle.texts.specs.HexLaws.{order, length_hex_16}
use Rattle.text_laws.proofs.Numbers.{number_decimal, number_signed, number_short_hex, plain_decimal, plain_signed, plain_short_hex}
use Rattle.text_laws.proofs.Numbers.{unbracketed_signed, short_decimal, short_signed, signed_reading, wrapped_signed}
use Rattle.text_laws.proofs.Bracketed.{bracketed, address_filled, authority_filled, expression_plus, expression_minus}
use Rattle.text_laws.proofs.NamesBack.{register_back, plain_register, short_register, up_to_back, csr_back, plain_csr, short_csr, scr_back}
use Rattle.text_laws.proofs.NamesBack.{plain_scr, short_scr}

-- what an instruction has in a slot's place is in the slot's range
abbrev pub SlotFits : Slot → Insn → Type 0
SlotFits (Rd naming) i = i.rd < 32
SlotFits (Rs1 naming) i = i.rs1 < 32
SlotFits (Rs2 naming) i = i.rs2 < 32
SlotFits Signed i = IsSignedOf 12 i.imm
SlotFits (Unsigned bits) i = (i.imm < 2 ^ bits) × (i.imm < 2 ^ 64)
SlotFits Upper i = IsUpperImmediate i.imm
SlotFits Small i = i.rs1 < 32
SlotFits Csr i = i.imm < 4096
SlotFits Special i = i.rs2 < 32
SlotFits (Address naming) i = IsSignedOf 12 i.imm × (i.rs1 < 32)
SlotFits (Authority naming) i = i.rs1 < 32
SlotFits (Target bits) i = i.imm < 2 ^ 64

-- a draft with what an instruction has in a slot's place
abbrev pub with_slot : Insn → Slot → Draft → Draft
with_slot i (Rd naming) d = record d { insn = record d.insn { rd = i.rd } }
with_slot i (Rs1 naming) d = record d { insn = record d.insn { rs1 = i.rs1 } }
with_slot i (Rs2 naming) d = record d { insn = record d.insn { rs2 = i.rs2 } }
with_slot i Signed d = record d { insn = record d.insn { imm = i.imm } }
with_slot i (Unsigned bits) d = record d { insn = record d.insn { imm = i.imm } }
with_slot i Upper d = record d { insn = record d.insn { imm = i.imm } }
with_slot i Small d = record d { insn = record d.insn { rs1 = i.rs1 } }
with_slot i Csr d = record d { insn = record d.insn { imm = i.imm } }
with_slot i Special d = record d { insn = record d.insn { rs2 = i.rs2 } }
with_slot i (Address naming) d = record d { insn = record d.insn { rs1 = i.rs1; imm = i.imm } }
with_slot i (Authority naming) d = record d { insn = record d.insn { rs1 = i.rs1 } }
with_slot i (Target bits) d = record d { target = Some (distance_to i.imm) }

signed_range : (n : ℕ) → IsSignedOf 12 n → n < 2 ^ 64
signed_range n h = elim h [ inl p ↦ omega arith | inr p ↦ omega (arith, p.1) ]

signed_12_pos : (n : ℕ) → n < 2048 → signed_12 (Ok (pos n)) ≡ Ok (pos n)
signed_12_pos n h = grind (arith, nat_tests)

signed_12_negsuc : (n : ℕ) → n < 2048 → signed_12 (Ok (negsuc n)) ≡ Ok (negsuc n)
signed_12_negsuc n h = grind (arith, nat_tests)

signed_12_back : (n : ℕ) → IsSignedOf 12 n → signed_12 (Ok (cast_signed w64 n)) ≡ Ok (cast_signed w64 n)
signed_12_back n h =
    let below = signed_range n h in
    elim (signed_reading n below) [
      | inl p ↦ ap (λ z. signed_12 (Ok z)) p.1 ∙ signed_12_pos n (elim h [ inl q ↦ omega arith | inr q ↦ absurd (omega (arith, p.0, q.0)) ])
          ∙ ap Ok (sym p.1)
      | inr p ↦ ap (λ z. signed_12 (Ok z)) p.1
          ∙ signed_12_negsuc (2 ^ 64 - 1 - n) (elim h [ inl q ↦ absurd (omega (arith, p.0, q)) | inr q ↦ omega (arith, q.0, q.1) ])
          ∙ ap Ok (sym p.1)
    ]

-- a number of 20 bits in the upper bits, and back
upper_back : (n : ℕ) → IsUpperImmediate n → sign_extended 32 (n / 2 ^ 12 % 2 ^ 20 % 2 ^ 64 * 2 ^ 12) ≡ n
unfolding sign_extended
upper_back n h = elim h.1 [
  | inl p ↦ let k = h.0 in grind (arith, nat_tests)
  | inr p ↦ let k = h.0 in let q = p.0 in let r = p.1 in grind (arith, nat_tests)
]

wrapped_pos : (n : ℕ) → n < 2 ^ 64 → wrapped (pos n) ≡ n
wrapped_pos n h = omega arith

target_back : (n : ℕ) → n < 2 ^ 64 → expression_of (shown_target n) ≡ Ok (distance_to n)
target_back n h = elim (signed_reading n h) [
  | inl p ↦
      let t : nat_lt n (2 ^ 63) ≡ true = let q = p.0 in grind (arith, nat_tests) in
      ap (λ t. expression_of (cond t (codes ".+" ++ decimal n) (codes ".-" ++ decimal (2 ^ 64 - n)))) t
      ∙ expression_plus (decimal n) (plain_decimal n h) ∙ ap (named_plus here_name) (number_decimal n h)
      ∙ ap (λ z. Ok (expression (Some here_name) z)) (sym p.1)
  | inr p ↦
      let t : nat_lt n (2 ^ 63) ≡ false = let q = p.0 in grind (arith, nat_tests) in
      let e : 2 ^ 64 - n ≡ suc (2 ^ 64 - 1 - n) = omega arith in
      let q = p.0 in
      ap (λ t. expression_of (cond t (codes ".+" ++ decimal n) (codes ".-" ++ decimal (2 ^ 64 - n)))) t
      ∙ expression_minus (decimal (2 ^ 64 - n)) (plain_decimal (2 ^ 64 - n) (omega arith))
      ∙ ap (named_minus here_name) (number_decimal (2 ^ 64 - n) (omega arith))
      ∙ ap (λ m. Ok (expression (Some here_name) (neg_ℤ (pos m)))) e ∙ ap (λ z. Ok (expression (Some here_name) z)) (sym p.1)
]

shown_address : (mode : Bool) (i : Insn) (naming : Naming)
    → shown_slot mode i (Address naming) ≡ bracketed (shown_signed i.imm) (shown_register mode naming i.rs1)
unfolding shown_slot
shown_address mode i naming =
    append_assoc (shown_signed i.imm ++ codes "(") (shown_register mode naming i.rs1) (codes ")")
    ∙ append_assoc (shown_signed i.imm) (codes "(") (shown_register mode naming i.rs1 ++ codes ")")

-- a number of so many bits, and of 64
in_bits : (bits n : ℕ) → (n < 2 ^ bits) × (n < 2 ^ 64) → n ≤ most_of bits
in_bits bits n small = go (cases_lt bits 64)
  where
    go : (bits < 64) ⊎ (64 ≤ bits) → n ≤ most_of bits
    go (inl few) =
        let all : min bits 64 ≡ bits = omega (arith, few) in subst (λ m. n ≤ 2 ^ m - 1) (sym all) (omega (arith, small.0))
    go (inr many) =
        let most : min bits 64 ≡ 64 = omega (arith, many) in subst (λ m. n ≤ 2 ^ m - 1) (sym most) (omega (arith, small.1))

pub slot_back : (mode : Bool) (i : Insn) (s : Slot) (d : Draft) → SlotFits s i
    → filled_slot s (shown_slot mode i s) d ≡ Ok (with_slot i s d)
unfolding filled_slot shown_slot
slot_back mode i (Rd naming) d h = ap (with_rd d) (register_back mode naming i.rd h)
slot_back mode i (Rs1 naming) d h = ap (with_rs1 d) (register_back mode naming i.rs1 h)
slot_back mode i (Rs2 naming) d h = ap (with_rs2 d) (register_back mode naming i.rs2 h)
slot_back mode i Signed d h =
    ap (λ r. with_imm d (signed_12 r)) (number_signed i.imm (signed_range i.imm h)) ∙ ap (with_imm d) (signed_12_back i.imm h)
    ∙ ap (λ n. Ok (record d { insn = record d.insn { imm = n } })) (wrapped_signed i.imm (signed_range i.imm h))
slot_back mode i (Unsigned bits) d h =
    ap (λ r. with_imm d (up_to (most_of bits) r)) (number_decimal i.imm h.1)
    ∙ ap (with_imm d) (up_to_back (most_of bits) i.imm (in_bits bits i.imm h))
    ∙ ap (λ n. Ok (record d { insn = record d.insn { imm = n } })) (wrapped_pos i.imm h.1)
slot_back mode i Upper d h =
    let n = i.imm / 2 ^ 12 % 2 ^ 20 in
    ap (λ r. with_upper d (up_to 0xFFFFF r)) (number_short_hex n (omega arith)) ∙ ap (with_upper d) (up_to_back 0xFFFFF n (omega arith))
    ∙ ap (λ n. Ok (record d { insn = record d.insn { imm = n } })) (upper_back i.imm h)
slot_back mode i Small d h =
    ap (λ r. with_small d (up_to 31 r)) (number_decimal i.rs1 (omega arith)) ∙ ap (with_small d) (up_to_back 31 i.rs1 (omega arith))
    ∙ ap (λ n. Ok (record d { insn = record d.insn { rs1 = n } })) (wrapped_pos i.rs1 (omega arith))
slot_back mode i Csr d h = ap (with_imm d) (csr_back i.imm h)
    ∙ ap (λ n. Ok (record d { insn = record d.insn { imm = n } })) (wrapped_pos i.imm (omega arith))
slot_back mode i Special d h = ap (with_special d) (scr_back i.rs2 h)
    ∙ ap (λ n. Ok (record d { insn = record d.insn { rs2 = n } })) (wrapped_pos i.rs2 (omega arith))
slot_back mode i (Address naming) d h =
    let below = signed_range i.imm h.0 in
    ap (λ x. filled_slot (Address naming) x d) (shown_address mode i naming)
    ∙ address_filled naming (shown_signed i.imm) (shown_register mode naming i.rs1) d (unbracketed_signed i.imm below)
    (plain_signed i.imm below) (plain_register mode naming i.rs1 h.1)
    ∙ ap (λ o. with_address d o (signed_12 (number_of (shown_signed i.imm)))) (register_back mode naming i.rs1 h.1)
    ∙ ap (λ r. with_address d (Some i.rs1) (signed_12 r)) (number_signed i.imm below)
    ∙ ap (with_address d (Some i.rs1)) (signed_12_back i.imm h.0)
    ∙ ap (λ n. Ok (record d { insn = record d.insn { rs1 = i.rs1; imm = n } })) (wrapped_signed i.imm below)
slot_back mode i (Authority naming) d h =
    authority_filled naming (shown_register mode naming i.rs1) d (plain_register mode naming i.rs1 h)
    ∙ ap (with_rs1 d) (register_back mode naming i.rs1 h)
slot_back mode i (Target bits) d h = ap (with_target d) (target_back i.imm h)

plain_bracketed : (s r : List ℕ) → every is_plain s ≡ true → IsPlain r → IsPlain (bracketed s r)
plain_bracketed s r h k =
    record {
      some = omega (arith, length-append s (40 ∷ (r ++ 41 ∷ [])));
      bytes = every-append is_plain s (40 ∷ (r ++ 41 ∷ [])) h (every-append is_plain (40 ∷ r) (41 ∷ []) k.bytes refl);
    }

plain_behind : (a b : ℕ) (text : List ℕ) → every is_plain (a ∷ b ∷ []) ≡ true → IsPlain text → IsPlain (a ∷ b ∷ text)
plain_behind a b text h k = record { some = omega arith; bytes = every-append is_plain (a ∷ b ∷ []) text h k.bytes }

plain_target : (n : ℕ) → n < 2 ^ 64 → IsPlain (shown_target n)
plain_target n h = elim (order n (2 ^ 63)) [
  | inl l ↦
      let t : nat_lt n (2 ^ 63) ≡ true = grind (arith, nat_tests) in
      subst (λ t. IsPlain (cond t (codes ".+" ++ decimal n) (codes ".-" ++ decimal (2 ^ 64 - n)))) (sym t)
      (plain_behind 46 43 (decimal n) refl (plain_decimal n h))
  | inr g ↦
      let t : nat_lt n (2 ^ 63) ≡ false = grind (arith, nat_tests) in
      subst (λ t. IsPlain (cond t (codes ".+" ++ decimal n) (codes ".-" ++ decimal (2 ^ 64 - n)))) (sym t)
      (plain_behind 46 45 (decimal (2 ^ 64 - n)) refl (plain_decimal (2 ^ 64 - n) (omega arith)))
]

short_target : (n : ℕ) → n < 2 ^ 64 → length (shown_target n) ≤ 40
short_target n h = elim (order n (2 ^ 63)) [
  | inl l ↦
      let t : nat_lt n (2 ^ 63) ≡ true = grind (arith, nat_tests) in
      let k = short_decimal n h in
      subst (λ t. length (cond t (codes ".+" ++ decimal n) (codes ".-" ++ decimal (2 ^ 64 - n))) ≤ 40) (sym t) (omega arith)
  | inr g ↦
      let t : nat_lt n (2 ^ 63) ≡ false = grind (arith, nat_tests) in
      let k = short_decimal (2 ^ 64 - n) (omega arith) in
      subst (λ t. length (cond t (codes ".+" ++ decimal n) (codes ".-" ++ decimal (2 ^ 64 - n))) ≤ 40) (sym t) (omega arith)
]

pub slot_plain : (mode : Bool) (i : Insn) (s : Slot) → SlotFits s i → IsPlain (shown_slot mode i s)
unfolding shown_slot
slot_plain mode i (Rd naming) h = plain_register mode naming i.rd h
slot_plain mode i (Rs1 naming) h = plain_register mode naming i.rs1 h
slot_plain mode i (Rs2 naming) h = plain_register mode naming i.rs2 h
slot_plain mode i Signed h = plain_signed i.imm (signed_range i.imm h)
slot_plain mode i (Unsigned bits) h = plain_decimal i.imm h.1
slot_plain mode i Upper h = plain_short_hex (i.imm / 2 ^ 12 % 2 ^ 20) (omega arith)
slot_plain mode i Small h = plain_decimal i.rs1 (omega arith)
slot_plain mode i Csr h = plain_csr i.imm h
slot_plain mode i Special h = plain_scr i.rs2 h
slot_plain mode i (Address naming) h =
    subst IsPlain (sym (shown_address mode i naming))
    (plain_bracketed (shown_signed i.imm) (shown_register mode naming i.rs1) (plain_signed i.imm (signed_range i.imm h.0)).bytes
    (plain_register mode naming i.rs1 h.1))
slot_plain mode i (Authority naming) h = plain_bracketed [] (shown_register mode naming i.rs1) refl (plain_register mode naming i.rs1 h)
slot_plain mode i (Target bits) h = plain_target i.imm h

short_bracketed : (s r : List ℕ) → length s ≤ 21 → length r ≤ 5 → length (bracketed s r) ≤ 40
short_bracketed s r h k = omega (arith, length-append s (40 ∷ (r ++ 41 ∷ [])), length-append r (41 ∷ []))

longer : (m n : ℕ) → m ≤ n → n ≤ 40 → m ≤ 40
longer m n h k = omega arith

pub slot_short : (mode : Bool) (i : Insn) (s : Slot) → SlotFits s i → length (shown_slot mode i s) ≤ 40
unfolding shown_slot
slot_short mode i (Rd naming) h = longer _ 5 (short_register mode naming i.rd h) (omega arith)
slot_short mode i (Rs1 naming) h = longer _ 5 (short_register mode naming i.rs1 h) (omega arith)
slot_short mode i (Rs2 naming) h = longer _ 5 (short_register mode naming i.rs2 h) (omega arith)
slot_short mode i Signed h = longer _ 21 (short_signed i.imm (signed_range i.imm h)) (omega arith)
slot_short mode i (Unsigned bits) h = longer _ 20 (short_decimal i.imm h.1) (omega arith)
slot_short mode i Upper h = let k = length_hex_16 (i.imm / 2 ^ 12 % 2 ^ 20) (omega arith) in omega arith
slot_short mode i Small h = longer _ 20 (short_decimal i.rs1 (omega arith)) (omega arith)
slot_short mode i Csr h = longer _ 18 (short_csr i.imm h) (omega arith)
slot_short mode i Special h = longer _ 20 (short_scr i.rs2 h) (omega arith)
slot_short mode i (Address naming) h =
    subst (λ x. length x ≤ 40) (sym (shown_address mode i naming))
    (short_bracketed (shown_signed i.imm) (shown_register mode naming i.rs1) (short_signed i.imm (signed_range i.imm h.0))
    (short_register mode naming i.rs1 h.1))
slot_short mode i (Authority naming) h =
    short_bracketed [] (shown_register mode naming i.rs1) (omega arith) (short_register mode naming i.rs1 h)
slot_short mode i (Target bits) h = short_target i.imm h
