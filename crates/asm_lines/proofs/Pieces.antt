-- A list of operands, cut at its first comma.
use Rattle.std.proofs.Common.{◌≡◌, ℕ, ◌+◌, ◌<◌, ◌==◌, Bool, true, false, not, cond, List, [], ◌∷◌, map, length, take, drop, refl, ap, sym}
use Rattle.std.proofs.Common.{◌∙◌, arith}
use Rattle.std.specs.List.{prefix_len, position_or_len, slice_split}
use Rattle.std.proofs.lemmas.List.{take_all}
use Rattle.std.proofs.lemmas.List.Splits.{slice_split_first, slice_split-cons_no}
use Rattle.asm_lines.specs.Text.{trimmed, pieces_between}

pub pieces_at : (text : List ℕ) → prefix_len (λ b. not (b == 44)) text < length text
    → pieces_between text
    ≡ trimmed (take (prefix_len (λ b. not (b == 44)) text) text) ∷ pieces_between (drop (prefix_len (λ b. not (b == 44)) text + 1) text)
pieces_at text h = ap (map trimmed) (slice_split_first (λ c. c == 44) text 0 h)

split_first_no : (p : ℕ → Bool) (x : ℕ) (xs : List ℕ) → position_or_len p (x ∷ xs) ≡ length (x ∷ xs) → p x ≡ false
split_first_no p x xs =
    elim (p x) as (λ b. cond (not b) (1 + position_or_len p xs) 0 ≡ length (x ∷ xs) → b ≡ false)
    [ true ↦ λ h. absurd (omega arith) | false ↦ λ h. refl ]

split_rest : (p : ℕ → Bool) (x : ℕ) (xs : List ℕ) → position_or_len p (x ∷ xs) ≡ length (x ∷ xs) → position_or_len p xs ≡ length xs
split_rest p x xs =
    elim (p x) as (λ b. cond (not b) (1 + position_or_len p xs) 0 ≡ length (x ∷ xs) → position_or_len p xs ≡ length xs)
    [ true ↦ λ h. absurd (omega arith) | false ↦ λ h. omega arith ]

pub split_whole : (p : ℕ → Bool) (xs : List ℕ) → position_or_len p xs ≡ length xs → slice_split p xs ≡ xs ∷ []
split_whole p [] h = refl
split_whole p (x ∷ xs) h =
    let rest : slice_split p xs ≡ xs ∷ [] = split_whole p xs (split_rest p x xs h) in
    slice_split-cons_no p x xs (split_first_no p x xs h) ∙ rw rest refl

pub pieces_none : (text : List ℕ) → length text ≡ prefix_len (λ b. not (b == 44)) text
    → pieces_between text ≡ trimmed (take (prefix_len (λ b. not (b == 44)) text) text) ∷ []
pieces_none text h =
    let all : take (prefix_len (λ b. not (b == 44)) text) text ≡ text = take_all _ text (omega arith) in
    ap (map trimmed) (split_whole (λ c. c == 44) text (sym h)) ∙ ap (λ t. trimmed t ∷ []) (sym all)
