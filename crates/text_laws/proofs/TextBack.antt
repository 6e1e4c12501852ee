-- The text of a word, assembled alone, gives the word again.
use Rattle.std.proofs.Common.{◌≡◌, ℕ, ◌<◌, ◌^◌, Bool, true, false, cond, List, [], ◌∷◌, ◌++◌, Option, Some, None, refl, sym, ap, ◌∙◌}
use Rattle.std.proofs.Common.{arith}
use Rattle.std.specs.Prelude.{pos, Ok, IfSome}
use Rattle.std.specs.Int.{w64, cast_signed}
use Rattle.std.specs.List.{flat_map}
use Rattle.std.proofs.lemmas.Bool.Decides.{nat_tests}
use Rattle.byteorder.specs.Endian.{little_bytes}
use Rattle.base.specs.Ram.{ram_base}
use Rattle.isa_rows.specs.declared.operands.Insn.{Insn}
use Rattle.isa_rows.specs.Decoded.{insn_of}
use Rattle.isa_rows.specs.DecodedLaws.{insn_of-IsInsn}
use Rattle.isa_rows.specs.Insn.{IsInsn}
use Rattle.isa_rows.specs.InsnLaws.{insn_word, insn_word-IsInsn, OperandsFit-Fits}
use Rattle.isa_rows.specs.Line.{line_of}
use Rattle.asm_names.specs.Slots.{slots_of}
use Rattle.asm_lines.specs.Text.{pieces_of}
use Rattle.asm_lines.specs.Number.{Expression, expression, expression_of}
use Rattle.asm_lines.specs.Operand.{wrapped}
use Rattle.asm_lines.specs.Statement.{Statement, instruction, contents, row, values, is_in_size, expression_or_nought}
use Rattle.assembler.specs.Places.{lines_of, all_places, opening_places, size_at}
use Rattle.assembler.specs.Values.{value_of, reach_of, has_value_beyond, has_unknown_name, is_out_of_reach}
use Rattle.assembler.specs.Checks.{named_fault}
use Rattle.assembler.specs.Bytes.{or_zero, insn_bytes, value_bytes, bytes_at, aimed}
use Rattle.image.specs.Image.{Image}
use Rattle.assembler.specs.Capabilities.{is_inexact}
use Rattle.assembler.specs.Faults.{closed, filled, empty_at, opening, line_fault, assembled_after}
use Rattle.assembler.specs.FaultLaws.{fault_by, statement_fault, line_fault-by}
use Rattle.assembler.specs.Text.{found_or, first_faulty_line, all_assembled, image_of}
use Rattle.disassembler.specs.Shown.{shown_word}
use Rattle.text_laws.specs.ReadBack.{has_target, distance_to, statement_of, statement_of_word, sound_line, word_text}
use Rattle.text_laws.proofs.LineBack.{reads_back}
use Rattle.text_laws.specs.TextBack.{IsWordAgain, image_of_word}
use Rattle.text_laws.proofs.TextBackLine.{one_line}
use Rattle.text_laws.proofs.TextBackTarget.{target_format, IsNear, back_again, near_target}

-- a statement alone at the beginning of RAM has no fault, and its bytes are the word's
record IsPlaced (word : ℕ) (s : Statement) : Type 0 where
  correct : line_fault [] opening (sound_line s) ≡ None
  image : image_of (all_assembled [] opening (sound_line s ∷ [])) ≡ image_of_word word

-- the image of bytes at the beginning of RAM
abbrev image_of_bytes : List ℕ → Image
image_of_bytes bytes =
    record {
      version = 1;
      pages = 1;
      entry = ram_base;
      mode = false;
      sections = closed [] (filled (empty_at ram_base) bytes);
      capabilities = [];
    }

row_image : (word : ℕ) (i : Insn) (target : Option Expression) → bytes_at [] ram_base (instruction (row i target)) ≡ little_bytes 4 word
    → image_of (all_assembled [] opening (sound_line (instruction (row i target)) ∷ [])) ≡ image_of_word word
unfolding assembled_after
row_image word i target e =
    ap (λ bytes. image_of_bytes bytes) e

values_image : (word : ℕ) (operands : List ℕ) → bytes_at [] ram_base (contents (values 4 operands)) ≡ little_bytes 4 word
    → image_of (all_assembled [] opening (sound_line (contents (values 4 operands)) ∷ [])) ≡ image_of_word word
unfolding assembled_after
values_image word operands e =
    ap (λ bytes. image_of_bytes bytes) e

-- an instruction without a target
plain_fault : (i : Insn) → line_fault [] opening (sound_line (instruction (row i None))) ≡ None
unfolding size_at is_inexact fault_by statement_fault named_fault has_value_beyond has_unknown_name is_out_of_reach
plain_fault i = line_fault-by [] opening (sound_line (instruction (row i None))) ∙ refl

plain_bytes : (word : ℕ) (i : Insn) → word ≡ insn_word i → bytes_at [] ram_base (instruction (row i None)) ≡ little_bytes 4 word
unfolding bytes_at insn_bytes
plain_bytes word i e = ap (little_bytes 4) (sym e)

-- an instruction with one
target_fault : (i : Insn) (imm : ℕ) → IsNear (reach_of (line_of i.row).format) (cast_signed w64 imm)
    → line_fault [] opening (sound_line (instruction (row i (Some (distance_to imm))))) ≡ None
unfolding size_at is_inexact fault_by statement_fault named_fault has_value_beyond has_unknown_name is_out_of_reach value_of
target_fault i imm h =
    line_fault-by [] opening (sound_line (instruction (row i (Some (distance_to imm))))) ∙ rw (h.in_limits, h.reached) refl

aimed_back : (i : Insn) (imm : ℕ) → wrapped (cast_signed w64 imm) ≡ imm
    → aimed [] ram_base i (Some (distance_to imm)) ≡ record i { imm = imm }
unfolding value_of
aimed_back i imm e = ap (λ d. record i { imm = wrapped d }) (back_again (pos ram_base) (cast_signed w64 imm))
    ∙ ap (λ n. record i { imm = n }) e

target_bytes : (word : ℕ) (i : Insn) → word ≡ insn_word i → wrapped (cast_signed w64 i.imm) ≡ i.imm
    → bytes_at [] ram_base (instruction (row (record i { imm = 0 }) (Some (distance_to i.imm)))) ≡ little_bytes 4 word
unfolding bytes_at insn_bytes
target_bytes word i e back = ap (λ j. little_bytes 4 (insn_word j)) (aimed_back (record i { imm = 0 }) i.imm back)
    ∙ ap (little_bytes 4) (sym e)

placed_target : (word : ℕ) (i : Insn) → IsInsn word i → wrapped (cast_signed w64 i.imm) ≡ i.imm → has_target (slots_of i.row) ≡ true
    → IsPlaced word (instruction (row (record i { imm = 0 }) (Some (distance_to i.imm))))
placed_target word i h back t =
    let near =
    near_target (line_of i.row).format i (sym (target_format i.row) ∙ t) (OperandsFit-Fits i (record { word = word; is_insn = h })) in
    record {
      correct = target_fault (record i { imm = 0 }) i.imm near;
      image = row_image word (record i { imm = 0 }) (Some (distance_to i.imm)) (target_bytes word i (insn_word-IsInsn word i h) back);
    }

placed_insn : (word : ℕ) (i : Insn) → IsInsn word i → wrapped (cast_signed w64 i.imm) ≡ i.imm → IsPlaced word (statement_of i)
placed_insn word i h back =
    elim (has_target (slots_of i.row)) as
    (λ t. has_target (slots_of i.row) ≡ t
    → IsPlaced word (instruction (cond t (row (record i { imm = 0 }) (Some (distance_to i.imm))) (row i None)))) [
      | true ↦ λ t. placed_target word i h back t
      | false ↦ λ _. record { correct = plain_fault i; image = row_image word i None (plain_bytes word i (insn_word-IsInsn word i h)) }
    ] refl

-- a word that is no row
module _ (word : ℕ) (below : word < 2 ^ 32) (text : List ℕ) (one : pieces_of text ≡ text ∷ [])
    (value : expression_of text ≡ Ok (expression None (pos word))) where
  known : value_of [] ram_base (expression_or_nought (expression_of text)) ≡ Some (pos word)
  unfolding value_of
  known = ap (λ e. value_of [] ram_base (expression_or_nought e)) value

  in_size : is_in_size 4 (pos word) ≡ true
  in_size = grind (arith, nat_tests)

  word_fault : line_fault [] opening (sound_line (contents (values 4 text))) ≡ None
  unfolding size_at is_inexact fault_by statement_fault named_fault has_value_beyond has_unknown_name is_out_of_reach
  word_fault = line_fault-by [] opening (sound_line (contents (values 4 text))) ∙ rw (one, known, in_size) refl

  word_bytes : bytes_at [] ram_base (contents (values 4 text)) ≡ little_bytes 4 word
  unfolding bytes_at value_bytes
  word_bytes =
      let e : wrapped (pos word) ≡ word = omega arith in
      ap (flat_map (value_bytes [] ram_base 4)) one ∙ ap (λ v. little_bytes 4 (wrapped (or_zero v)) ++ []) known ∙ ap (little_bytes 4) e

  placed_word : IsPlaced word (contents (values 4 text))
  placed_word = record { correct = word_fault; image = values_image word text word_bytes }

placed : (mode : Bool) (word : ℕ) → word < 2 ^ 32 → IsPlaced word (statement_of_word word (insn_of word))
placed mode word h =
    let back = reads_back mode word h in
    elim (insn_of word) as (λ o. insn_of word ≡ o → IfSome o (λ i. IsInsn word i) → IsPlaced word (statement_of_word word o)) [
      | Some i ↦ λ e is. placed_insn word i is (back.distance i e)
      | None ↦ λ _ _. placed_word word h (word_text word) back.one_value back.value
    ] refl (insn_of-IsInsn word h)

pub word_again : (mode : Bool) (word : ℕ) → word < 2 ^ 32 → IsWordAgain mode word
word_again mode word h =
    let one : lines_of (shown_word mode word) ≡ sound_line (statement_of_word word (insn_of word)) ∷ [] =
    one_line mode word h ∙ ap (λ l. l ∷ []) (reads_back mode word h).line in
    let p = placed mode word h in
    record {
      correct = ap (λ ls. first_faulty_line (all_places ls opening_places).symbols opening 1 ls) one ∙ ap
          (λ f. found_or f 1 None) p.correct;
      image = ap (λ ls. image_of (all_assembled (all_places ls opening_places).symbols opening ls)) one ∙ p.image;
    }
