-- A row's value and the bits of its operands make the instruction's word.
use Rattle.std.proofs.Common.{◌≡◌, ℕ, ◌+◌, ap, ◌∙◌, arith}
use Rattle.isa_rows.specs.declared.formats.Format.{Format}
use Rattle.isa_rows.specs.declared.formats.Format.TheVariants.{Upper}
use Rattle.isa_rows.specs.declared.operands.Insn.{Insn}
use Rattle.isa_rows.specs.Line.{line_of}
use Rattle.isa_rows.specs.Operands.{word_of}
use Rattle.isa_rows.specs.InsnLaws.{insn_word}

value-word_of : (format : Format) (value : ℕ) (i : Insn) → value + word_of format 0 i ≡ word_of format value i
unfolding word_of
value-word_of Upper value i = omega arith
value-word_of _ value i = omega arith

pub parts-insn_word : (i : Insn) (value bits : ℕ) (format : Format) → value ≡ (line_of i.row).value → format ≡ (line_of i.row).format
    → bits ≡ word_of format 0 i → value + bits ≡ insn_word i
unfolding insn_word
parts-insn_word i value bits format p q r =
    ap (λ n. value + n) r ∙ value-word_of format value i ∙ ap (λ n. word_of format n i) p ∙ ap (λ f. word_of f (line_of i.row).value i) q
