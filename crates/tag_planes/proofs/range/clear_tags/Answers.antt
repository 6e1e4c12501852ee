use Rattle.std.proofs.Common.{◌≡◌, ◌⊎◌, ◌+◌, ◌/◌, ◌%◌, ◌<◌, ◌≤◌, true, false, eqb, ltb, leb, bit_or, ◌∙◌, arith, inl, inr, ⊎_elim}
use Rattle.std.proofs.lemmas.Bool.{cases_eq, lt-ltb, le-ltb, le-leb, lt-leb, and_right, or_from, or_left, or_right}
use Rattle.std.specs.Int.{bit_at}
use Rattle.tag_planes.proofs.TagBits.{bit_of_either, and_true}
use Rattle.tag_planes.proofs.range.clear_tags.Goals as goal

pub returns-then-first_word-last_word-clause-cleared : goal.returns-then-first_word-last_word-clause-cleared
returns-then-first_word-last_word-clause-cleared c = λ k low high.
    let j = k % 64 in
    let before : ltb j (c.args.first % 64) ≡ false = le-ltb _ _ (omega arith) in
    let after : leb (c.args.end % 64) j ≡ false = lt-leb _ _ (omega arith) in
    c.keep_tags.ensures.here k (omega arith)
    ∙ and_right _ _
    (bit_of_either c.bits_below-before.result c.bits_from-after.result j
    ∙ or_from _ _ (c.bits_below-before.ensures j ∙ before) (c.bits_from-after.ensures j (omega arith) ∙ after))

pub returns-then-first_word-last_word-clause-kept : goal.returns-then-first_word-last_word-clause-kept
returns-then-first_word-last_word-clause-kept c = λ k far.
    let j = k % 64 in
    ⊎_elim (λ here.
    let bit : eqb (bit_at (bit_or c.bits_below-before.result c.bits_from-after.result) j) 1 ≡ true =
    bit_of_either c.bits_below-before.result c.bits_from-after.result j
    ∙ ⊎_elim (λ below. or_left _ _ (c.bits_below-before.ensures j ∙ lt-ltb j (c.args.first % 64) (omega arith)))
    (λ past. or_right _ _ (c.bits_from-after.ensures j (omega arith) ∙ le-leb (c.args.end % 64) j (omega arith))) far in
    c.keep_tags.ensures.here k here ∙ and_true _ _ bit) (λ elsewhere. c.keep_tags.ensures.elsewhere k elsewhere)
    (cases_eq (k / 64) (c.args.first / 64))

pub returns-then-last_word-planes-clause-kept : goal.returns-then-last_word-planes-clause-kept
returns-then-last_word-planes-clause-kept c = λ k far.
    let j = k % 64 in
    let first = c.keep_tags-else-first_word-last_word in
    let last = c.keep_tags-then-last_word-planes in
    let apart : c.args.first / 64 < c.args.end / 64 = omega (arith, c.if-first_word-last_word.false, c.requires.order) in
    ⊎_elim (λ here.
    let past : c.args.end ≤ k = ⊎_elim (λ below. absurd (omega arith)) (λ h. h) far in
    last.ensures.here k here
    ∙ and_true _ _ (c.bits_from-after.ensures j (omega arith) ∙ le-leb (c.args.end % 64) j (omega arith))
    ∙ c.clear_words.ensures.elsewhere k (inr (omega arith))
    ∙ first.ensures.elsewhere k (λ same. omega arith)) (λ elsewhere.
    last.ensures.elsewhere k elsewhere ∙ ⊎_elim (λ here.
    let below : k < c.args.first = ⊎_elim (λ h. h) (λ past. absurd (omega arith)) far in
    c.clear_words.ensures.elsewhere k (inl (omega arith))
    ∙ first.ensures.here k here
    ∙ and_true _ _ (c.bits_below-before.ensures j ∙ lt-ltb j (c.args.first % 64) (omega arith))) (λ other.
    let outside : (k / 64 < c.args.first / 64 + 1) ⊎ (c.args.end / 64 ≤ k / 64) =
    ⊎_elim (λ below. inl (omega arith)) (λ past. inr (omega arith)) far in
    c.clear_words.ensures.elsewhere k outside ∙ first.ensures.elsewhere k other) (cases_eq (k / 64) (c.args.first / 64)))
    (cases_eq (k / 64) (c.args.end / 64))
