-- Lines of an input: its pieces between line feeds, and a line's beginning.
use Rattle.std.proofs.Common.{◌≡◌, ℕ, zero, suc, ◌+◌, ◌-◌, ◌<◌, ◌≤◌, false, List, [], ◌∷◌, ◌++◌, All, length, take, drop, refl, sym, ap}
use Rattle.std.proofs.Common.{◌∙◌, append_assoc, append-nil, take_all, arith}
use Rattle.std.proofs.lemmas.List.{take-append-drop, append_cancel_left, length-append}
use Rattle.std.proofs.lemmas.List.Elements.{All-head, All-tail, All-weaker, All-push}
use Rattle.std.proofs.lemmas.List.Sums.{position_or_len_is}
use Rattle.std.proofs.lemmas.List.Splits.{slice_split_at, slice_split_none, join_with_byte-slice_split}
use Rattle.std.proofs.Math.Seq.{take-append-add}
use Rattle.std.specs.List.{slice_split, join_by, join_with_byte, position_or_len, before_first}
use Rattle.debugger.specs.Talk.{is_feed, fed, IsLine}
use Rattle.debugger.specs.Heard.{IsInLine}

-- ---- one line

feed_at : (part : List ℕ) → IsInLine part → position_or_len is_feed part ≡ length part
feed_at part h = position_or_len_is is_feed part (length part) 0 (omega arith) (λ k lt. h k 0 lt) (λ lt. absurd (omega arith))

pub before_none : (part : List ℕ) → IsInLine part → before_first is_feed part ≡ part
before_none part h = ap (λ n. take n part) (feed_at part h) ∙ take_all (length part) part (omega arith)

pub in_line_more : (part : List ℕ) (b : ℕ) → IsInLine part → is_feed b ≡ false → IsInLine (part ++ b ∷ [])
in_line_more part b h e = All-push (λ x. is_feed x ≡ false) part b h e

pub whole_lines : (lines : List (List ℕ)) → All IsInLine lines → All IsLine lines
whole_lines lines h = All-weaker IsInLine IsLine before_none lines h

-- ---- whole lines

pub fed_more : (lines : List (List ℕ)) (part : List ℕ) → fed (lines ++ part ∷ []) ≡ (fed lines ++ part) ++ 10 ∷ []
fed_more [] part = append-nil (part ++ 10 ∷ [])
fed_more (line ∷ lines) part =
    ap (λ text. (line ++ 10 ∷ []) ++ text) (fed_more lines part)
    ∙ sym (append_assoc (line ++ 10 ∷ []) (fed lines ++ part) (10 ∷ []))
    ∙ ap (λ text. text ++ 10 ∷ []) (sym (append_assoc (line ++ 10 ∷ []) (fed lines) part))

pub split_fed : (lines : List (List ℕ)) (rest : List ℕ) → All IsInLine lines
    → slice_split is_feed (fed lines ++ rest) ≡ lines ++ slice_split is_feed rest
split_fed [] rest h = refl
split_fed (line ∷ lines) rest h =
    ap (slice_split is_feed) (append_assoc (line ++ 10 ∷ []) (fed lines) rest ∙ append_assoc line (10 ∷ []) (fed lines ++ rest))
    ∙ slice_split_at is_feed line 10 (fed lines ++ rest) (All-head IsInLine line lines h) refl
    ∙ ap (λ pieces. line ∷ pieces) (split_fed lines rest (All-tail IsInLine line lines h))

pub pieces_at_end : (lines : List (List ℕ)) (part : List ℕ) → All IsInLine lines → IsInLine part
    → slice_split is_feed (fed lines ++ part) ≡ lines ++ part ∷ []
pieces_at_end lines part h p = split_fed lines part h ∙ ap (λ pieces. lines ++ pieces) (slice_split_none is_feed part p)

pub pieces_at_feed : (lines : List (List ℕ)) (part rest : List ℕ) → All IsInLine lines → IsInLine part
    → slice_split is_feed ((fed lines ++ part) ++ 10 ∷ rest) ≡ lines ++ part ∷ slice_split is_feed rest
pieces_at_feed lines part rest h p =
    ap (slice_split is_feed) (append_assoc (fed lines) part (10 ∷ rest)) ∙ split_fed lines (part ++ 10 ∷ rest) h
    ∙ ap (λ pieces. lines ++ pieces) (slice_split_at is_feed part 10 rest p refl)

-- ---- pieces joined again

same_join : (pieces : List (List ℕ)) → join_by (λ l. l) (10 ∷ []) pieces ≡ join_with_byte 10 pieces
same_join [] = refl
same_join (x ∷ []) = append-nil x
same_join (x ∷ y ∷ pieces) = ap (λ text. x ++ 10 ∷ text) (same_join (y ∷ pieces))

pub joined : (rest : List ℕ) → join_by (λ l. l) (10 ∷ []) (slice_split is_feed rest) ≡ rest
joined rest = same_join (slice_split is_feed rest) ∙ join_with_byte-slice_split 10 rest

-- ---- beginnings

pub take_again : (n : ℕ) (xs ys : List ℕ) → take n (take n xs ++ ys) ≡ take n (xs ++ ys)
take_again zero xs ys = refl
take_again (suc n) [] ys = refl
take_again (suc n) (x ∷ xs) ys = ap (λ l. x ∷ l) (take_again n xs ys)

pub take_front : (n : ℕ) (xs ys : List ℕ) → length xs ≤ n → take n (xs ++ ys) ≡ xs ++ take (n - length xs) ys
take_front n xs ys h =
    let all : n ≡ length xs + (n - length xs) = omega arith in
    ap (λ k. take k (xs ++ ys)) all ∙ take-append-add xs ys (n - length xs)

pub take_behind : (n : ℕ) (xs ys : List ℕ) → length xs ≤ n → take (n - length xs) ys ++ drop n (xs ++ ys) ≡ ys
take_behind n xs ys h =
    append_cancel_left xs _ ys
    (sym (append_assoc xs (take (n - length xs) ys) (drop n (xs ++ ys))) ∙ ap (λ l. l ++ drop n (xs ++ ys)) (sym (take_front n xs ys h))
    ∙ take-append-drop n (xs ++ ys))

pub push_room : (n : ℕ) (old new : List ℕ) (b : ℕ) → new ≡ old ++ b ∷ [] → length old < n → new ≡ take n (old ++ b ∷ [])
push_room n old new b e h = e ∙ sym (take_all n (old ++ b ∷ []) (omega (arith, length-append old (b ∷ []))))

pub push_full : (n : ℕ) (old : List ℕ) (b : ℕ) → length old ≡ n → old ≡ take n (old ++ b ∷ [])
push_full n old b h =
    let none : n - length old ≡ 0 = omega arith in
    sym (take_front n old (b ∷ []) (omega arith) ∙ ap (λ k. old ++ take k (b ∷ [])) none ∙ append-nil old)
