-- The text of a word, read as a line, says the word again.
use Rattle.std.proofs.Common.{◌≡◌, ℕ, ◌*◌, ◌^◌, ◌<◌, ◌≤◌, Bool, true, false, ◌&&◌, cond, List, [], ◌∷◌, ◌++◌, map, Some, None, refl, sym}
use Rattle.std.proofs.Common.{ap, subst, ◌∙◌, arith, length, length-append}
use Rattle.std.specs.Prelude.{pos, Ok, ◌==◌, nat_lt, IfSome, codes}
use Rattle.std.specs.Int.{w64, cast_signed}
use Rattle.std.specs.List.{flat_map}
use Rattle.std.proofs.lemmas.Bool.Decides.{nat_tests}
use Rattle.isa_rows.specs.declared.operands.Insn.{Insn}
use Rattle.isa_rows.specs.declared.rows.Row.{Row}
use Rattle.isa_rows.specs.declared.rows.Row.TheVariants.{Lui}
use Rattle.isa_rows.specs.Decoded.{insn_of}
use Rattle.isa_rows.specs.DecodedLaws.{insn_of-IsInsn}
use Rattle.isa_rows.specs.Insn.{IsInsn}
use Rattle.isa_rows.specs.InsnLaws.{OperandsFit-Fits}
use Rattle.isa_rows.specs.Line.{line_of}
use Rattle.isa_rows.specs.Operands.{OperandsFit}
use Rattle.isa_rows.specs.declared.slots.Slot.{Slot}
use Rattle.asm_names.specs.Mnemonic.{mnemonic}
use Rattle.asm_names.specs.Slots.{slots_of}
use Rattle.asm_lines.specs.declared.fault.LineFault.TheVariants.{A3}
use Rattle.asm_lines.specs.Text.{pieces_of}
use Rattle.asm_lines.specs.Number.{expression, expression_of, number_of, numbered}
use Rattle.asm_lines.specs.Operand.{filled_draft, filled_fault, told_fault, wrapped}
use Rattle.asm_lines.specs.Statement.{contents, values, said, said_unless, plain, pattern_of, pattern_said, row_said, values_fault}
use Rattle.asm_lines.specs.Statement.{value_fault, is_in_size, said_by}
use Rattle.asm_lines.specs.Line.{labelled, line_meaning}
use Rattle.texts.specs.Hex.{hex_of}
use Rattle.disassembler.specs.Shown.{shown_slot, shown_operands, shown_insn, shown_found, shown_word}
use Rattle.text_laws.specs.ReadBack.{statement_of, statement_of_word, word_text, sound_line, ReadsBack}
use Rattle.text_laws.proofs.Cut.{every, is_plain, IsPlain, ArePlain, joined, append_nil, pieces_back}
use Rattle.text_laws.proofs.Lines.{word_line, operands_line}
use Rattle.disassembler.specs.LengthLaws.{mnemonic_short}
use Rattle.text_laws.proofs.Numbers.{number_word, plain_word, length_word, wrapped_signed}
use Rattle.text_laws.proofs.SlotBack.{slot_plain, slot_short}
use Rattle.text_laws.proofs.Fields.{fields_of, slots_fit, SlotsFit, with_slots, drafts_back, faults_back}
use Rattle.text_laws.proofs.Filled.{nought, statement_of_draft, statement_back, row_suits_all}

-- a row's name is a word, no directive, and no alias but for one that is told from the row by its operands
mnemonic_is_plain : (mode : Bool) (r : Row) → (nat_lt 0 (length (mnemonic mode r)) && every is_plain (mnemonic mode r)) ≡ true
unfolding line_of
mnemonic_is_plain true Lui = refl
mnemonic_is_plain true _ = refl
mnemonic_is_plain false Lui = refl
mnemonic_is_plain false _ = refl

plain_parts : (text : List ℕ) → (nat_lt 0 (length text) && every is_plain text) ≡ true → IsPlain text
plain_parts text h = record { some = grind (arith, nat_tests); bytes = grind (arith, nat_tests) }

plain_mnemonic : (mode : Bool) (r : Row) → IsPlain (mnemonic mode r)
plain_mnemonic mode r = plain_parts (mnemonic mode r) (mnemonic_is_plain mode r)

no_directive : (mode : Bool) (r : Row) (operands : List ℕ)
    → said_by (mnemonic mode r) operands ≡ pattern_said (pattern_of (mnemonic mode r) (length operands == 0)) operands
unfolding said_by line_of
no_directive true Lui operands = refl
no_directive true _ operands = refl
no_directive false Lui operands = refl
no_directive false _ operands = refl

abbrev is_empty : List Slot → Bool
is_empty [] = true
is_empty (s ∷ ss) = false

pattern_back : (mode : Bool) (r : Row) → pattern_of (mnemonic mode r) (is_empty (slots_of r)) ≡ Some (plain r (slots_of r))
unfolding pattern_of line_of
pattern_back true Lui = refl
pattern_back true _ = refl
pattern_back false Lui = refl
pattern_back false _ = refl

-- operands after the first, shown
joined_shown : (f : Slot → List ℕ) (ss : List Slot) → flat_map (λ s. codes ", " ++ f s) ss ≡ joined (map f ss)
joined_shown f [] = refl
joined_shown f (s ∷ ss) = ap (λ l. 44 ∷ 32 ∷ (f s ++ l)) (joined_shown f ss)

shown_plain : (mode : Bool) (i : Insn) (ss : List Slot) → SlotsFit ss i → ArePlain (map (shown_slot mode i) ss)
shown_plain mode i [] h = tt
shown_plain mode i (s ∷ ss) h = (slot_plain mode i s h.0, shown_plain mode i ss h.1)

shown_short : (mode : Bool) (i : Insn) (ss : List Slot) → SlotsFit ss i → length (joined (map (shown_slot mode i) ss)) ≤ 42 * length ss
shown_short mode i [] h = omega arith
shown_short mode i (s ∷ ss) h =
    let a = slot_short mode i s h.0 in
    let b = shown_short mode i ss h.1 in
    omega (arith, length-append (shown_slot mode i s) (joined (map (shown_slot mode i) ss)))

-- what is read of the operands is the statement
operands_said : (mode : Bool) (i : Insn) (ss : List Slot) (operands : List ℕ) → pieces_of operands ≡ map (shown_slot mode i) ss
    → SlotsFit ss i
    → pattern_said (Some (plain i.row ss)) operands ≡ said (Some (statement_of_draft (with_slots i ss (nought i.row)))) None
operands_said mode i ss operands e h =
    ap (λ ps. row_said (filled_draft ss ps (nought i.row)) (filled_fault ss ps (nought i.row))) e
    ∙ ap (λ d. row_said d (filled_fault ss (map (shown_slot mode i) ss) (nought i.row))) (drafts_back mode i ss (nought i.row) h)
    ∙ ap (λ x. row_said (with_slots i ss (nought i.row)) x) (faults_back mode i ss (nought i.row) h)

-- a row without operands, and with some
insn_alone : (mode : Bool) (i : Insn) → slots_of i.row ≡ []
    → line_meaning (mnemonic mode i.row ++ []) ≡ labelled None (said (Some (statement_of_draft (nought i.row))) None)
insn_alone mode i e =
    let pattern : pattern_of (mnemonic mode i.row) true ≡ Some (plain i.row []) =
    subst (λ ss. pattern_of (mnemonic mode i.row) (is_empty ss) ≡ Some (plain i.row ss)) e (pattern_back mode i.row) in
    let short = mnemonic_short mode i.row in
    ap line_meaning (append_nil (mnemonic mode i.row)) ∙ word_line (mnemonic mode i.row) (plain_mnemonic mode i.row) (omega arith)
    ∙ ap (labelled None) (no_directive mode i.row []) ∙ ap (λ p. labelled None (pattern_said p [])) pattern

empty_length : (t rest : List ℕ) → 0 < length t → (length (t ++ rest) == 0) ≡ false
empty_length t rest h = let e = length-append t rest in grind (arith, nat_tests)

insn_with : (mode : Bool) (i : Insn) (s : Slot) (ss : List Slot) → slots_of i.row ≡ s ∷ ss → length (s ∷ ss) ≤ 3 → SlotsFit (s ∷ ss) i
    → line_meaning (mnemonic mode i.row ++ shown_operands mode i (s ∷ ss))
    ≡ labelled None (said (Some (statement_of_draft (with_slots i (s ∷ ss) (nought i.row)))) None)
insn_with mode i s ss e few h =
    let m = mnemonic mode i.row in
    let t = shown_slot mode i s in
    let ts = map (shown_slot mode i) ss in
    let pattern : pattern_of (mnemonic mode i.row) false ≡ Some (plain i.row (s ∷ ss)) =
    subst (λ ss. pattern_of (mnemonic mode i.row) (is_empty ss) ≡ Some (plain i.row ss)) e (pattern_back mode i.row) in
    let first = slot_plain mode i s h.0 in
    let others = shown_plain mode i ss h.1 in
    let a = mnemonic_short mode i.row in
    let b = slot_short mode i s h.0 in
    let c = shown_short mode i ss h.1 in
    let size = length-append m (32 ∷ (t ++ joined ts)) in
    let inner = length-append t (joined ts) in
    ap (λ l. line_meaning (m ++ 32 ∷ (t ++ l))) (joined_shown (shown_slot mode i) ss)
    ∙ operands_line m t ts (plain_mnemonic mode i.row) first others (omega arith)
    ∙ ap (labelled None) (no_directive mode i.row (t ++ joined ts))
    ∙ ap (λ alone. labelled None (pattern_said (pattern_of m alone) (t ++ joined ts))) (empty_length t (joined ts) first.some)
    ∙ ap (λ p. labelled None (pattern_said p (t ++ joined ts))) pattern
    ∙ ap (labelled None) (operands_said mode i (s ∷ ss) (t ++ joined ts) (pieces_back t ts first others) h)

insn_line : (mode : Bool) (i : Insn) (ss : List Slot) → slots_of i.row ≡ ss → length ss ≤ 3 → SlotsFit ss i
    → line_meaning (mnemonic mode i.row ++ shown_operands mode i ss)
    ≡ labelled None (said (Some (statement_of_draft (with_slots i ss (nought i.row)))) None)
insn_line mode i [] e few h = insn_alone mode i e
insn_line mode i (s ∷ ss) e few h = insn_with mode i s ss e few h

insn_back : (mode : Bool) (i : Insn) → OperandsFit (line_of i.row).format i → line_meaning (shown_insn mode i) ≡ sound_line (statement_of i)
insn_back mode i h =
    let r = row_suits_all i.row in
    insn_line mode i (slots_of i.row) refl r.few (slots_fit (line_of i.row).format (slots_of i.row) i r.suit h)
    ∙ ap (λ s. labelled None (said (Some s) None)) (statement_back (line_of i.row).format i (slots_of i.row) r.cover r.cover_imm h)

-- a word that is no row
word_said : (b : ℕ) (bs : List ℕ) → said_by (codes ".word") (b ∷ bs)
    ≡ said_unless (contents (values 4 (b ∷ bs))) (values_fault 4 (pieces_of (b ∷ bs)))
unfolding said_by
word_said b bs = refl

word_expression : (ds : List ℕ) → expression_of (48 ∷ 120 ∷ ds) ≡ numbered (number_of (48 ∷ 120 ∷ ds))
unfolding expression_of
word_expression ds = let some : nat_lt 0 (length (48 ∷ 120 ∷ ds)) ≡ true = grind (arith, nat_tests) in rw some refl

word_value : (word : ℕ) → word < 2 ^ 32 → expression_of (word_text word) ≡ Ok (expression None (pos word))
word_value word h = word_expression (hex_of 8 word) ∙ ap numbered (number_word word h)

word_pieces : (word : ℕ) → pieces_of (word_text word) ≡ word_text word ∷ []
word_pieces word = ap pieces_of (sym (append_nil (word_text word))) ∙ pieces_back (word_text word) [] (plain_word word) tt

word_in_size : (word : ℕ) → word < 2 ^ 32 → is_in_size 4 (pos word) ≡ true
word_in_size word h = grind (arith, nat_tests)

no_fault : (word : ℕ) → word < 2 ^ 32 → values_fault 4 (pieces_of (word_text word)) ≡ None
no_fault word h =
    ap (values_fault 4) (word_pieces word) ∙ ap (λ e. told_fault (value_fault (is_in_size 4) e) None) (word_value word h)
    ∙ ap (λ t. told_fault (cond t None (Some A3)) None) (word_in_size word h)

word_back : (word : ℕ) → word < 2 ^ 32 → line_meaning (codes ".word 0x" ++ hex_of 8 word)
    ≡ sound_line (contents (values 4 (word_text word)))
word_back word h =
    let size = length_word word in
    ap (λ l. line_meaning (codes ".word" ++ 32 ∷ l)) (sym (append_nil (word_text word)))
    ∙ operands_line (codes ".word") (word_text word) [] (record { some = omega arith; bytes = refl }) (plain_word word) tt
    (omega (arith, length-append (word_text word) []))
    ∙ ap (λ l. labelled None (said_by (codes ".word") l)) (append_nil (word_text word))
    ∙ ap (labelled None) (word_said 48 (120 ∷ hex_of 8 word))
    ∙ ap (λ f. labelled None (said_unless (contents (values 4 (word_text word))) f)) (no_fault word h)

operands_of_insn : (word : ℕ) (i : Insn) → IsInsn word i → OperandsFit (line_of i.row).format i
operands_of_insn word i h = OperandsFit-Fits i (record { word = word; is_insn = h })

found_back : (mode : Bool) (word : ℕ) → word < 2 ^ 32
    → line_meaning (shown_word mode word) ≡ sound_line (statement_of_word word (insn_of word))
found_back mode word h =
    elim (insn_of word) as
    (λ o. IfSome o (λ i. IsInsn word i) → line_meaning (shown_found mode word o) ≡ sound_line (statement_of_word word o)) [
      | Some i ↦ λ is. insn_back mode i (operands_of_insn word i is)
      | None ↦ λ _. word_back word h
    ] (insn_of-IsInsn word h)

distance_back : (word : ℕ) (i : Insn) → word < 2 ^ 32 → insn_of word ≡ Some i → wrapped (cast_signed w64 i.imm) ≡ i.imm
distance_back word i h e =
    let is = subst (λ o. IfSome o (λ i. IsInsn word i)) e (insn_of-IsInsn word h) in
    wrapped_signed i.imm (fields_of (line_of i.row).format i (operands_of_insn word i is)).imm_below

pub reads_back : (mode : Bool) (word : ℕ) → word < 2 ^ 32 → ReadsBack mode word
reads_back mode word h =
    record {
      line = found_back mode word h;
      distance = λ i e. distance_back word i h e;
      one_value = word_pieces word;
      value = word_value
          word h;
    }
