-- The parts of a line between commas, cut at the first comma.
use Rattle.std.proofs.Common.{◌≡◌, ℕ, ◌+◌, ◌<◌, ◌==◌, not, List, [], ◌∷◌, length, take, drop, ap, sym, ◌∙◌, arith}
use Rattle.std.specs.List.{prefix_len, slice_split}
use Rattle.std.proofs.lemmas.List.{take_all}
use Rattle.std.proofs.lemmas.List.Folds.{length-prefix_len}
use Rattle.std.proofs.lemmas.List.Splits.{slice_split_first}
use Rattle.asm_lines.specs.Parts.{part, parts_between, parts_from, trimmed_part}
use Rattle.asm_lines.proofs.Pieces.{split_whole}

pub parts_at : (before : ℕ) (text : List ℕ) → prefix_len (λ b. not (b == 44)) text < length text
    → parts_between (part before text)
    ≡ trimmed_part (part before (take (prefix_len (λ b. not (b == 44)) text) text))
    ∷ parts_between
    (part (before + prefix_len (λ b. not (b == 44)) text + 1) (drop (prefix_len (λ b. not (b == 44)) text + 1) text))
parts_at before text h =
    let count = prefix_len (λ b. not (b == 44)) text in
    let rest = drop (count + 1) text in
    ap (parts_from before) (slice_split_first (λ c. c == 44) text 0 h)
    ∙ ap (λ n. trimmed_part (part before (take count text)) ∷ parts_from (before + n + 1) (slice_split (λ c. c == 44) rest))
    (length-prefix_len (λ b. not (b == 44)) text)

pub parts_none : (before : ℕ) (text : List ℕ) → length text ≡ prefix_len (λ b. not (b == 44)) text
    → parts_between (part before text) ≡ trimmed_part (part before (take (prefix_len (λ b. not (b == 44)) text) text)) ∷ []
parts_none before text h =
    let all : take (prefix_len (λ b. not (b == 44)) text) text ≡ text = take_all _ text (omega arith) in
    ap (parts_from before) (split_whole (λ c. c == 44) text (sym h)) ∙ ap (λ t. trimmed_part (part before t) ∷ []) (sym all)
