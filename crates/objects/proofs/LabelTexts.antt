-- A label is a text of ASCII.
use Rattle.std.specs.Prelude.{◌≡◌, ℕ, suc, ◌+◌, ◌<◌, Bool, true, false, ◌&&◌, ◌==◌, List, [], ◌∷◌, length}
use Rattle.std.specs.List.{prefix_len}
use Rattle.std.proofs.Common.{arith, refl, sym, ◌∙◌}
use Rattle.std.proofs.lemmas.Bool.{false≢true}
use Rattle.std.proofs.lemmas.Bool.Decides.{nat_tests}
use Rattle.std.specs.Str.{IsAscii, IsUtf8}
use Rattle.std.proofs.lemmas.Str.{IsUtf8-from_ascii}
use Rattle.asm_lines.specs.Text.{begins_name, continues_name, is_name}
use Rattle.symbols.specs.Symbols.{is_label}
use Rattle.std.proofs.lemmas.Str.Ascii.{IsAscii-cons, IsAscii-nil}

begins_small : (b : ℕ) → begins_name b ≡ true → b < 128
begins_small b h = grind (arith, nat_tests)

continues_small : (b : ℕ) → continues_name b ≡ true → b < 128
continues_small b h = grind (arith, nat_tests)

one_more : (n : ℕ) → 1 + n ≡ suc n
one_more n = omega arith

not_none : (n : ℕ) → (0 == suc n) ≡ false
not_none n = grind (arith, nat_tests)

same_less : (m n : ℕ) → (suc m == suc n) ≡ (m == n)
same_less m n = grind (arith, nat_tests)

-- the parts of a conjunction that is true
left : (a b : Bool) → (a && b) ≡ true → a ≡ true
left true b h = refl
left false b h = h

right : (a b : Bool) → (a && b) ≡ true → b ≡ true
right true b h = h
right false b h = absurd (false≢true h)

rest_at : (b : ℕ) (bs : List ℕ) → ((prefix_len continues_name bs == length bs) ≡ true → IsAscii bs) → (goes : Bool)
    → continues_name b ≡ goes → (prefix_len continues_name (b ∷ bs) == length (b ∷ bs)) ≡ true → IsAscii (b ∷ bs)
rest_at b bs ih true e h =
    IsAscii-cons b bs (continues_small b e) (ih (sym (same_less (prefix_len continues_name bs) (length bs)) ∙ (rw (e, one_more) at h)))
rest_at b bs ih false e h = absurd (false≢true (sym (not_none (length bs)) ∙ (rw e at h)))

-- what goes on as a name to its end
rest : (bs : List ℕ) → (prefix_len continues_name bs == length bs) ≡ true → IsAscii bs
rest [] h = IsAscii-nil
rest (b ∷ bs) h = rest_at b bs (rest bs) (continues_name b) refl h

name_ascii : (name : List ℕ) → is_name name ≡ true → IsAscii name
name_ascii [] h = IsAscii-nil
name_ascii (b ∷ bs) h = IsAscii-cons b bs (begins_small b (left _ _ h)) (rest bs (right _ _ h))

pub label_text : (name : List ℕ) → is_label name ≡ true → IsUtf8 name
unfolding is_label
label_text name h = IsUtf8-from_ascii name (name_ascii name (left _ _ h))
