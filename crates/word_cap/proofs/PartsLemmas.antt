-- The parts of a word give its bounds.
use Rattle.std.proofs.Common.{◌≡◌, ℕ, ◌+◌, ◌%◌, ◌^◌, ◌<◌, refl, sym, ap, ◌∙◌, inl, inr, cond, arith}
use Rattle.std.proofs.lemmas.Bool.{cases_Bool}
use Rattle.cap_format.specs.Word.{ie_of, address_of}
use Rattle.cap_bounds.specs.Mantissa.{exponent_of, base_mantissa, length_mantissa}
use Rattle.cap_bounds.specs.MantissaLaws.{exponent_of-high, base_mantissa-below, length_mantissa-range}
use Rattle.cap_bounds.specs.Window.{base_of_word, top_of_word}
use Rattle.word_cap.specs.declared.word_parts.Parts.{Parts}
use Rattle.word_cap.specs.Parts.{edge_of, correction, corrected_base, corrected_top, is_flipped, flipped, base_by_parts, ArePartsOf}
use Rattle.word_cap.specs.Parts.{GiveBoundsOf}
use Rattle.word_cap.proofs.Lengths.{top_mantissa-sum}
use Rattle.word_cap.proofs.Corrections.{corrected_base-decoded, corrected_top-decoded}

-- the length's mantissa has 13 bits at most
pub length_mantissa-short : (word : ℕ) → length_mantissa word < 8192
length_mantissa-short word = elim (cases_Bool (ie_of word)) [
  | inl internal ↦ ((length_mantissa-range word).1 internal).1
  | inr clear ↦ omega (arith, (length_mantissa-range word).0 clear)
]

address_of-below : (word : ℕ) → address_of word < 2 ^ 64
address_of-below word = omega arith

-- the base by corrections of a word's numbers
pub corrected_base-word : (word e b edge : ℕ) → e ≡ exponent_of word → b ≡ base_mantissa word → edge ≡ edge_of b
    → corrected_base e (address_of word) (correction edge e (address_of word) b) b ≡ base_of_word word
unfolding base_of_word
corrected_base-word word e b edge exponent base is =
    rw (is, exponent, base)
    (corrected_base-decoded (exponent_of word) (address_of word) (base_mantissa word) (exponent_of-high word) (base_mantissa-below word)
    (address_of-below word))

corrected_top-word : (word e b t edge base top : ℕ) → e ≡ exponent_of word → b ≡ base_mantissa word → t ≡ (b + length_mantissa word) % 16384
    → edge ≡ edge_of b
    → base ≡ base_of_word word → top ≡ corrected_top e (address_of word) (correction edge e (address_of word) t) t
    → cond (is_flipped e base top) (flipped top) top ≡ top_of_word word
unfolding base_of_word top_of_word
corrected_top-word word e b t edge base top exponent mantissa sum is from to =
    let a : ℕ = address_of word in
    let l : ℕ = length_mantissa word in
    rw exponent
    (corrected_top-decoded (exponent_of word) a (base_mantissa word) l base top (exponent_of-high word) (base_mantissa-below word)
    (length_mantissa-short word)
    (address_of-below word) from (to ∙ rw (is, sum, exponent, mantissa) refl))

-- the bounds follow from the numbers
pub bounds_from_numbers : (word : ℕ) (parts : Parts) → ArePartsOf word parts → GiveBoundsOf word parts
bounds_from_numbers word parts is =
    let base : base_by_parts parts (address_of word) ≡ base_of_word word =
    ap (λ step. corrected_base parts.e (address_of word) step parts.b) is.base_step
    ∙ corrected_base-word word parts.e parts.b parts.edge is.exponent is.base_mantissa is.edge in
    let sum : parts.t ≡ (parts.b + length_mantissa word) % 16384 =
    is.top_mantissa ∙ top_mantissa-sum word ∙ ap (λ b. (b + length_mantissa word) % 16384) (sym is.base_mantissa) in
    let top = ap (λ step. corrected_top parts.e (address_of word) step parts.t) is.top_step in
    record {
      base = base;
      top = rw is.flip (corrected_top-word word parts.e parts.b parts.t parts.edge _ _ is.exponent is.base_mantissa sum is.edge base top);
    }
