-- Lines of ranges, one after the other.
use Rattle.std.proofs.Common.{◌≡◌, ℕ, ◌+◌, ◌<◌, ◌≤◌, List, Result, ◌++◌, drop, length, ap, sym, ◌∙◌, subst, append-nil}
use Rattle.std.proofs.Math.ListN.{drop_of_length-le}
use Rattle.std.proofs.lemmas.List.{append_assoc, drop_more}
use Rattle.std.specs.List.{flat_map}
use Rattle.std.specs.Prelude.{OnOk, slice_index_or}
use Rattle.cap_bounds.specs.CapValue.{CapValue}
use Rattle.reach.specs.declared.range.Range.{Range}
use Rattle.reach.specs.declared.right.Right.{Right}
use Rattle.reach.specs.Ranges.{ranges_of}
use Rattle.reached.specs.declared.member.Member.{Member}
use Rattle.reached.specs.Links.{values}
use Rattle.reached.specs.Order.{seen_members}
use Rattle.reach_texts.specs.Asked.{values_of}
use Rattle.reach_texts.specs.Summary.{or_none}
use Rattle.reach_texts.proofs.Seen.{seen_values}

-- what is written after one more of them
pub after_line : {X : Type 0} (line : X → List ℕ) (xs : List X) (n : ℕ) (d : X) (text new whole : List ℕ) → n < length xs
    → new ≡ text ++ line (slice_index_or xs n d) → text ++ flat_map line (drop n xs) ≡ whole
    → new ++ flat_map line (drop (n + 1) xs) ≡ whole
after_line line xs n d text new whole inside written rest =
    let here : flat_map line (drop n xs) ≡ line (slice_index_or xs n d) ++ flat_map line (drop (n + 1) xs) =
    ap (flat_map line) (drop_more xs n d inside) in
    rw written (append_assoc text (line (slice_index_or xs n d)) (flat_map line (drop (n + 1) xs)) ∙ ap (λ t. text ++ t) (sym here) ∙ rest)

-- the lines of the ranges of members as they are seen, when none is left
pub lines_of : {X : Type 0} (line : Range → List ℕ) (right : Right) (value : X → CapValue) (ms : List (Member X)) (found read : List Range)
    (n : ℕ) (lines : List ℕ) → found ≡ ranges_of right (values value ms) → read ≡ found → length read ≤ n
    → lines ++ flat_map line (drop n read) ≡ flat_map line read
    → lines ≡ flat_map line (ranges_of right (values_of (seen_members value ms)))
lines_of line right value ms found read n lines are is all written =
    sym (append-nil lines) ∙ ap (λ rest. lines ++ flat_map line rest) (sym (drop_of_length-le read all)) ∙ written
    ∙ ap (flat_map line) (is ∙ are ∙ ap (ranges_of right) (sym (seen_values value ms)))

-- lines under a name, or that there is none, in other words
pub named_lines : {X E : Type 0} (r : Result X E) (old new name lines other others : List ℕ) → name ≡ other → lines ≡ others
    → OnOk r (new ≡ old ++ or_none name lines) → OnOk r (new ≡ old ++ or_none other others)
named_lines r old new name lines other others same are written =
    subst (λ n. OnOk r (new ≡ old ++ or_none n others)) same (subst (λ ls. OnOk r (new ≡ old ++ or_none name ls)) are written)
