-- A line of a mnemonic and operands says what they say.
use Rattle.std.proofs.Common.{◌≡◌, ℕ, ◌-◌, ◌<◌, ◌≤◌, inl, inr, Bool, true, false, not, ◌&&◌, cond, List, [], ◌∷◌, ◌++◌, Some, None, refl}
use Rattle.std.proofs.Common.{ap, ◌∙◌, arith, length, take, length-append}
use Rattle.std.specs.Prelude.{◌==◌, nat_lt, nat_le, slice_index}
use Rattle.std.specs.List.{prefix_len, after_first}
use Rattle.std.proofs.lemmas.Bool.Decides.{nat_tests}
use Rattle.asm_lines.specs.Text.{is_blank, is_foreign, trimmed, trimmed_start, trimmed_end, uncommented, has_label, name_length}
use Rattle.asm_lines.specs.Text.{mnemonic_of, operands_of}
use Rattle.asm_lines.specs.Statement.{said_by}
use Rattle.asm_lines.specs.Line.{labelled, line_said, line_of_text, line_meaning}
use Rattle.text_laws.proofs.Cut.{every, every-append, every_weaker, every_at, prefix_every, before_stop, after_stop, before_none}
use Rattle.text_laws.proofs.Cut.{after_none, last, last-append, trimmed_end_back, trimmed_start_back, is_plain, plain_blank, IsPlain}
use Rattle.text_laws.proofs.Cut.{ArePlain, joined, joined_last}
use Rattle.texts.specs.HexLaws.{order}

-- a byte of a line that has no label, no comment and no quote
abbrev pub is_line_byte : ℕ → Bool
is_line_byte b = nat_le 32 b && (nat_lt b 127 && (not (b == 34) && (not (b == 35) && not (b == 58))))

plain_in_line : (text : List ℕ) → every is_plain text ≡ true → every is_line_byte text ≡ true
plain_in_line text h = every_weaker is_plain is_line_byte text (λ b k. grind (arith, nat_tests)) h

uncommented_back : (text : List ℕ) → every is_line_byte text ≡ true → uncommented text ≡ text
uncommented_back [] h = refl
uncommented_back (b ∷ bs) h =
    let hash : (b == 35) ≡ false = grind (arith, nat_tests) in
    let quote : (b == 34) ≡ false = grind (arith, nat_tests) in
    let rest : every is_line_byte bs ≡ true = grind (arith, nat_tests) in
    rw (hash, quote) (ap (λ l. b ∷ l) (uncommented_back bs rest))

neither : (a b c : Bool) → c ≡ false → a && (b && c) ≡ false
neither true true c h = h
neither true false c h = refl
neither false b c h = refl

no_colon : (text : List ℕ) (k : ℕ) → every is_line_byte text ≡ true → (nat_lt k (length text) && (slice_index text k == 58)) ≡ false
no_colon text k h = elim (order k (length text)) [
  | inl l ↦ let e = every_at is_line_byte text k 0 h l in grind (arith, nat_tests)
  | inr g ↦ grind (arith, nat_tests)
]

no_label : (text : List ℕ) → every is_line_byte text ≡ true → has_label text ≡ false
unfolding has_label
no_label text h = neither _ _ _ (no_colon text (name_length text) h)

line_checked : (text : List ℕ) → every is_line_byte text ≡ true → length text ≤ 255
    → line_meaning text ≡ line_of_text (trimmed (uncommented text))
unfolding line_meaning
line_checked text h short =
    let ascii =
    prefix_every (λ b. not (is_foreign b)) text
    (every_weaker is_line_byte (λ b. not (is_foreign b)) text (λ b k. grind (arith, nat_tests)) h) in
    let whole : nat_lt (prefix_len (λ b. not (is_foreign b)) text) (length text) ≡ false = grind (arith, nat_tests) in
    let fits : nat_lt 255 (length text) ≡ false = grind (arith, nat_tests) in
    rw (whole, fits) refl

line_text : (b : ℕ) (bs : List ℕ) → has_label (b ∷ bs) ≡ false
    → line_of_text (b ∷ bs) ≡ labelled None (said_by (mnemonic_of (b ∷ bs)) (operands_of (b ∷ bs)))
line_text b bs h =
    ap (λ t. line_said (cond t (Some (take (name_length (b ∷ bs)) (b ∷ bs))) None)
    (cond t (trimmed_start (after_first (λ b. b == 58) (b ∷ bs))) (b ∷ bs))) h

-- a line without white space at either end, a colon, a comment or a quote
line_back : (b : ℕ) (bs : List ℕ) → every is_line_byte (b ∷ bs) ≡ true → length (b ∷ bs) ≤ 255 → is_blank b ≡ false
    → is_blank (last (b ∷ bs)) ≡ false → line_meaning (b ∷ bs) ≡ labelled None (said_by (mnemonic_of (b ∷ bs)) (operands_of (b ∷ bs)))
line_back b bs h short first end =
    line_checked (b ∷ bs) h short ∙ ap (λ t. line_of_text (trimmed t)) (uncommented_back (b ∷ bs) h)
    ∙ ap (λ t. line_of_text (trimmed_end t)) (trimmed_start_back b bs first) ∙ ap line_of_text (trimmed_end_back (b ∷ bs) end)
    ∙ line_text b bs (no_label (b ∷ bs) h)

no_blank : (text : List ℕ) → every is_plain text ≡ true → every (λ b. not (is_blank b)) text ≡ true
no_blank text h = every_weaker is_plain (λ b. not (is_blank b)) text (λ b k. grind (arith, nat_tests)) h

-- a mnemonic alone
pub word_line : (m : List ℕ) → IsPlain m → length m ≤ 255 → line_meaning m ≡ labelled None (said_by m [])
word_line [] h short = absurd (omega (arith, h.some))
word_line (b ∷ bs) h short =
    let first = plain_blank b (every_at is_plain (b ∷ bs) 0 0 h.bytes h.some) in
    let end = plain_blank (last (b ∷ bs)) (every_at is_plain (b ∷ bs) (length (b ∷ bs) - 1) 0 h.bytes (omega arith)) in
    let clear = no_blank (b ∷ bs) h.bytes in
    line_back b bs (plain_in_line (b ∷ bs) h.bytes) short first end
    ∙ ap (λ w. labelled None (said_by w (operands_of (b ∷ bs)))) (before_none is_blank (b ∷ bs) clear)
    ∙ ap (λ o. labelled None (said_by (b ∷ bs) (trimmed_start o))) (after_none is_blank (b ∷ bs) clear)

joined_in_line : (t : List ℕ) (ts : List (List ℕ)) → IsPlain t → ArePlain ts → every is_line_byte (t ++ joined ts) ≡ true
joined_in_line t [] h a = every-append is_line_byte t [] (plain_in_line t h.bytes) refl
joined_in_line t (u ∷ us) h a =
    every-append is_line_byte t (44 ∷ 32 ∷ (u ++ joined us)) (plain_in_line t h.bytes) (joined_in_line u us a.0 a.1)

operands_start : (t : List ℕ) (ts : List (List ℕ)) → IsPlain t → trimmed_start (t ++ joined ts) ≡ t ++ joined ts
operands_start [] ts h = absurd (omega (arith, h.some))
operands_start (b ∷ bs) ts h = trimmed_start_back b (bs ++ joined ts) (plain_blank b (every_at is_plain (b ∷ bs) 0 0 h.bytes h.some))

-- a mnemonic and operands
pub operands_line : (m t : List ℕ) (ts : List (List ℕ)) → IsPlain m → IsPlain t → ArePlain ts → length (m ++ 32 ∷ (t ++ joined ts)) ≤ 255
    → line_meaning (m ++ 32 ∷ (t ++ joined ts)) ≡ labelled None (said_by m (t ++ joined ts))
operands_line [] t ts h k a short = absurd (omega (arith, h.some))
operands_line (b ∷ bs) t ts h k a short =
    let ops = t ++ joined ts in
    let first = plain_blank b (every_at is_plain (b ∷ bs) 0 0 h.bytes h.some) in
    let some : 0 < length (t ++ joined ts) = omega (arith, length-append t (joined ts), k.some) in
    let end = ap is_blank (last-append (b ∷ bs) (32 ∷ ops) (omega arith)) ∙ ap is_blank (last-append (32 ∷ []) ops some)
    ∙ joined_last t ts k a in
    let clear = no_blank (b ∷ bs) h.bytes in
    let bytes = every-append is_line_byte (b ∷ bs) (32 ∷ ops) (plain_in_line (b ∷ bs) h.bytes) (joined_in_line t ts k a) in
    line_back b (bs ++ 32 ∷ ops) bytes short first end
    ∙ ap (λ w. labelled None (said_by w (operands_of (b ∷ (bs ++ 32 ∷ ops))))) (before_stop is_blank (b ∷ bs) 32 ops clear refl)
    ∙ ap (λ o. labelled None (said_by (b ∷ bs) (trimmed_start o))) (after_stop is_blank (b ∷ bs) 32 ops clear refl)
    ∙ ap (λ o. labelled None (said_by (b ∷ bs) o)) (operands_start t ts k)
