use Rattle.std.proofs.Common.{◌≡◌, ◌+◌, bit_and, refl, ap, sym, ◌∙◌, w8, to_z, of_z}
use Rattle.std.proofs.lemmas.Int.{to_z-of_z}
use Rattle.std.proofs.lemmas.Nat.{and_mask}
use Rattle.cap_format.specs.Word.{address_of}
use Rattle.cap_bounds.specs.Mantissa.{top_mantissa}
use Rattle.cap_bounds.specs.Window.{base_of_word}
use Rattle.word_cap.specs.Parts.{correction, corrected_base, corrected_top, is_flipped}
use Rattle.word_cap.proofs.Lengths.{top_mantissa-sum}
use Rattle.word_cap.proofs.PartsLemmas.{corrected_base-word, bounds_from_numbers}
use Rattle.word_cap.proofs.decoding.parts.Goals as goal
use Rattle.word_cap.proofs.decoding.parts.Goals.{After-is_flipped}

pub is_flipped-requires : goal.is_flipped-requires
is_flipped-requires c = c.corrected_top-top.ensures.range

-- what is kept of the numbers is the numbers
top_mantissa-is : (c : After-is_flipped)
    → bit_and (c.mantissas_of-mantissas.result.base + c.mantissas_of-mantissas.result.length) 16383 ≡ top_mantissa c.args.word
top_mantissa-is c =
    and_mask (c.mantissas_of-mantissas.result.base + c.mantissas_of-mantissas.result.length) 14
    ∙ rw (c.mantissas_of-mantissas.ensures.base, c.mantissas_of-mantissas.ensures.length) (sym (top_mantissa-sum c.args.word))

base_step-is : (c : After-is_flipped)
    → to_z w8 (of_z w8 c.correction.result)
    ≡ correction c.edge_of-edge.result c.mantissas_of-mantissas.result.exponent
    (address_of c.args.word) c.mantissas_of-mantissas.result.base
base_step-is c =
    to_z-of_z w8 c.correction.result (record { sfits = c.correction.type_inv })
    ∙ c.correction.ensures
    ∙ rw (c.is_high-base_high.ensures, c.is_high-address_high.ensures, c.address-address.ensures) refl

top_step-is : (c : After-is_flipped)
    → to_z w8 (of_z w8 c.correction-2.result)
    ≡ correction c.edge_of-edge.result c.mantissas_of-mantissas.result.exponent (address_of c.args.word)
    (bit_and (c.mantissas_of-mantissas.result.base + c.mantissas_of-mantissas.result.length) 16383)
top_step-is c =
    to_z-of_z w8 c.correction-2.result (record { sfits = c.correction-2.type_inv })
    ∙ c.correction-2.ensures
    ∙ rw (c.is_high-top_high.ensures, c.is_high-address_high.ensures, c.address-address.ensures) refl

-- and the base that bit 64 of the top is compared with is the base by its correction
base-is : (c : After-is_flipped)
    → c.base_at.result
    ≡ corrected_base c.mantissas_of-mantissas.result.exponent (address_of c.args.word)
    (to_z w8 (of_z w8 c.correction.result)) c.mantissas_of-mantissas.result.base
unfolding base_of_word
base-is c =
    let e = c.mantissas_of-mantissas.result.exponent in
    let b = c.mantissas_of-mantissas.result.base in
    let by = c.mantissas_of-mantissas.ensures in
    c.base_at.ensures
    ∙ rw (by.exponent, by.base, c.address-address.ensures) refl
    ∙ sym (corrected_base-word c.args.word e b c.edge_of-edge.result by.exponent by.base c.edge_of-edge.ensures.value)
    ∙ ap (λ step. corrected_base c.mantissas_of-mantissas.result.exponent
    (address_of c.args.word) step c.mantissas_of-mantissas.result.base) (sym (base_step-is c))

top-is : (c : After-is_flipped)
    → c.corrected_top-top.result
    ≡ corrected_top c.mantissas_of-mantissas.result.exponent (address_of c.args.word) (to_z w8 (of_z w8 c.correction-2.result))
    (bit_and (c.mantissas_of-mantissas.result.base + c.mantissas_of-mantissas.result.length) 16383)
top-is c =
    c.corrected_top-top.ensures.value
    ∙ rw (
      sym
          (to_z-of_z w8 c.correction-2.result (record { sfits = c.correction-2.type_inv }) ∙ c.correction-2.ensures),
      c.address-address.ensures,
    ) refl

pub returns-clause-numbers : goal.returns-clause-numbers
returns-clause-numbers c = record {
  exponent = c.mantissas_of-mantissas.ensures.exponent;
  base_mantissa = c.mantissas_of-mantissas.ensures.base;
  top_mantissa = top_mantissa-is c;
  edge = c.edge_of-edge.ensures.value;
  base_step = base_step-is c;
  top_step = top_step-is c;
  flip =
      c.is_flipped.ensures
      ∙ ap (λ base. is_flipped c.mantissas_of-mantissas.result.exponent base c.corrected_top-top.result) (base-is c)
      ∙ ap (is_flipped c.mantissas_of-mantissas.result.exponent _) (top-is c);
}

pub returns-clause-bounds : goal.returns-clause-bounds
returns-clause-bounds c = bounds_from_numbers c.args.word _ (returns-clause-numbers c)
