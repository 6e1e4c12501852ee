use Rattle.std.proofs.Common.{◌≡◌, ◌+◌, ◌-◌, ◌%◌, ◌^◌, bit_and, refl, ◌∙◌, arith}
use Rattle.std.proofs.lemmas.Nat.{and_mask}
use Rattle.cap_bounds.specs.Mantissa.{base_mantissa, top_mantissa, length_mantissa}
use Rattle.cap_bounds.specs.Window.{top_of_word}
use Rattle.cap_bounds.specs.MantissaLaws.{exponent_of-high, base_mantissa-below}
use Rattle.word_cap.proofs.Lengths.{top_mantissa-below}
use Rattle.word_cap.proofs.PartsLemmas.{length_mantissa-short}
use Rattle.word_cap.proofs.decoding.bounds_of.Goals as goal
use Rattle.word_cap.proofs.decoding.bounds_of.Goals.{After-address-address}

-- the difference of T and B is L
length-is : (c : After-address-address)
    → bit_and ((c.from.result + (2 ^ 64 - c.from-b.result)) % 2 ^ 64) 16383 ≡ length_mantissa c.args.word
unfolding length_mantissa
length-is c =
    let numbers = c.parts-parts.ensures.numbers in
    let t : c.from.result ≡ top_mantissa c.args.word = c.from.ensures ∙ numbers.top_mantissa in
    let b : c.from-b.result ≡ base_mantissa c.args.word = c.from-b.ensures ∙ numbers.base_mantissa in
    let base = base_mantissa-below c.args.word in
    let top = top_mantissa-below c.args.word in
    and_mask ((c.from.result + (2 ^ 64 - c.from-b.result)) % 2 ^ 64) 14 ∙ rw (t, b) (omega arith)

pub base_at-requires-clause-exponent : goal.base_at-requires-clause-exponent
base_at-requires-clause-exponent c = rw (c.from-e.ensures, c.parts-parts.ensures.numbers.exponent) (exponent_of-high c.args.word)

pub base_at-requires-clause-mantissa : goal.base_at-requires-clause-mantissa
base_at-requires-clause-mantissa c = rw (c.from-b.ensures, c.parts-parts.ensures.numbers.base_mantissa) (base_mantissa-below c.args.word)

pub top_at-requires-clause-length : goal.top_at-requires-clause-length
top_at-requires-clause-length c =
    rw (length-is (goal.at.top_at-requires-clause-length c).After-address-address) (length_mantissa-short c.args.word)

pub returns-clause-top : goal.returns-clause-top
unfolding top_of_word
returns-clause-top c =
    let numbers = c.parts-parts.ensures.numbers in
    c.top_at.ensures.value
    ∙ rw (
      length-is (goal.at.returns-clause-top c).After-address-address,
      c.from-e.ensures,
      c.from-b.ensures,
      c.address-address.ensures,
      numbers.exponent,
      numbers.base_mantissa,
    ) refl

pub top_at-requires-clause-exponent : goal.top_at-requires-clause-exponent
top_at-requires-clause-exponent c = rw (c.from-e.ensures, c.parts-parts.ensures.numbers.exponent) (exponent_of-high c.args.word)

pub top_at-requires-clause-mantissa : goal.top_at-requires-clause-mantissa
top_at-requires-clause-mantissa c = rw (c.from-b.ensures, c.parts-parts.ensures.numbers.base_mantissa) (base_mantissa-below c.args.word)
