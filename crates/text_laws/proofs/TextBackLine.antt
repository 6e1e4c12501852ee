-- The text of a word is one line: it has no line feed.
use Rattle.std.proofs.Common.{◌≡◌, ℕ, ◌<◌, ◌^◌, Bool, true, false, not, List, [], ◌∷◌, ◌++◌, map, Some, None, refl, ap, arith}
use Rattle.std.specs.Prelude.{◌==◌, IfSome, codes}
use Rattle.std.specs.List.{slice_split, flat_map}
use Rattle.std.proofs.lemmas.Bool.Decides.{nat_tests}
use Rattle.isa_rows.specs.declared.operands.Insn.{Insn}
use Rattle.isa_rows.specs.declared.rows.Row.{Row}
use Rattle.isa_rows.specs.declared.rows.Row.TheVariants.{Lui}
use Rattle.isa_rows.specs.Decoded.{insn_of}
use Rattle.isa_rows.specs.DecodedLaws.{insn_of-IsInsn}
use Rattle.isa_rows.specs.Insn.{IsInsn}
use Rattle.isa_rows.specs.InsnLaws.{OperandsFit-Fits}
use Rattle.isa_rows.specs.Line.{line_of}
use Rattle.isa_rows.specs.declared.slots.Slot.{Slot}
use Rattle.asm_names.specs.Mnemonic.{mnemonic}
use Rattle.asm_names.specs.Slots.{slots_of}
use Rattle.asm_lines.specs.Line.{line_meaning}
use Rattle.assembler.specs.Places.{lines_of}
use Rattle.texts.specs.Hex.{hex_of}
use Rattle.disassembler.specs.Shown.{shown_slot, shown_operands, shown_insn, shown_found, shown_word}
use Rattle.text_laws.specs.ReadBack.{word_text}
use Rattle.text_laws.proofs.Cut.{every, every-append, every_weaker, is_plain}
use Rattle.text_laws.proofs.Numbers.{plain_word}
use Rattle.text_laws.proofs.SlotBack.{slot_plain}
use Rattle.text_laws.proofs.Fields.{slots_fit, SlotsFit}
use Rattle.text_laws.proofs.Filled.{row_suits_all}

-- a byte that ends no line
abbrev is_inside : ℕ → Bool
is_inside b = not (b == 10)

inside_plain : (text : List ℕ) → every is_plain text ≡ true → every is_inside text ≡ true
inside_plain text h = every_weaker is_plain is_inside text (λ b k. grind (arith, nat_tests)) h

mnemonic_inside : (mode : Bool) (r : Row) → every is_inside (mnemonic mode r) ≡ true
unfolding line_of
mnemonic_inside true Lui = refl
mnemonic_inside true _ = refl
mnemonic_inside false Lui = refl
mnemonic_inside false _ = refl

slot_inside : (mode : Bool) (i : Insn) (s : Slot) (ss : List Slot) → SlotsFit (s ∷ ss) i → every is_inside (shown_slot mode i s) ≡ true
slot_inside mode i s ss h = inside_plain (shown_slot mode i s) (slot_plain mode i s h.0).bytes

-- operands after the first
others_inside : (mode : Bool) (i : Insn) (ss : List Slot) → SlotsFit ss i
    → every is_inside (flat_map (λ s. codes ", " ++ shown_slot mode i s) ss) ≡ true
others_inside mode i [] h = refl
others_inside mode i (s ∷ ss) h =
    every-append is_inside (44 ∷ 32 ∷ shown_slot mode i s) (flat_map (λ s. codes ", " ++ shown_slot mode i s) ss)
    (slot_inside mode i s ss h) (others_inside mode i ss h.1)

operands_inside : (mode : Bool) (i : Insn) (ss : List Slot) → SlotsFit ss i → every is_inside (shown_operands mode i ss) ≡ true
operands_inside mode i [] h = refl
operands_inside mode i (s ∷ ss) h =
    every-append is_inside (32 ∷ shown_slot mode i s) (flat_map (λ s. codes ", " ++ shown_slot mode i s) ss) (slot_inside mode i s ss h)
    (others_inside mode i ss h.1)

insn_inside : (mode : Bool) (word : ℕ) (i : Insn) → IsInsn word i → every is_inside (shown_insn mode i) ≡ true
insn_inside mode word i h =
    let fit =
    slots_fit (line_of i.row).format (slots_of i.row) i (row_suits_all i.row).suit
    (OperandsFit-Fits i (record { word = word; is_insn = h })) in
    every-append is_inside (mnemonic mode i.row) (shown_operands mode i (slots_of i.row)) (mnemonic_inside mode i.row)
    (operands_inside mode i (slots_of i.row) fit)

word_inside : (word : ℕ) → every is_inside (codes ".word 0x" ++ hex_of 8 word) ≡ true
word_inside word = inside_plain (word_text word) (plain_word word).bytes

text_inside : (mode : Bool) (word : ℕ) → word < 2 ^ 32 → every is_inside (shown_word mode word) ≡ true
text_inside mode word h =
    elim (insn_of word) as (λ o. IfSome o (λ i. IsInsn word i) → every is_inside (shown_found mode word o) ≡ true) [
      | Some i ↦ λ is. insn_inside mode word i is
      | None ↦ λ _. word_inside word
    ] (insn_of-IsInsn word h)

split_inside : (xs : List ℕ) → every is_inside xs ≡ true → slice_split (λ b. b == 10) xs ≡ xs ∷ []
split_inside [] h = refl
split_inside (x ∷ xs) h =
    let a : (x == 10) ≡ false = grind (arith, nat_tests) in
    let r : every is_inside xs ≡ true = grind (arith, nat_tests) in
    rw (a, split_inside xs r)

pub one_line : (mode : Bool) (word : ℕ) → word < 2 ^ 32 → lines_of (shown_word mode word) ≡ line_meaning (shown_word mode word) ∷ []
one_line mode word h = ap (map line_meaning) (split_inside (shown_word mode word) (text_inside mode word h))
