-- What was said one after the other, as one.
use Rattle.std.proofs.Common.{◌≡◌, ℕ, List, [], ◌∷◌, ◌++◌, sym, ap, ◌∙◌, append_assoc}
use Rattle.json.specs.Token.{Token, begin_object, end_object, key}
use Rattle.objects.specs.Items.{object_field}

pub said_two : (old s t a b : List Token) → s ≡ old ++ a → t ≡ s ++ b → t ≡ old ++ (a ++ b)
said_two old s t a b e f = f ∙ ap (λ x. x ++ b) e ∙ append_assoc old a b

pub said_three : (old s t u a b c : List Token) → s ≡ old ++ a → t ≡ s ++ b → u ≡ t ++ c → u ≡ old ++ (a ++ (b ++ c))
said_three old s t u a b c e f g =
    said_two old t u (a ++ b) c (said_two old s t a b e f) g ∙ ap (λ x. old ++ x) (append_assoc a b c)

-- an object inside, of fields that are said in two parts, and in three
pub inside_two : (name : List ℕ) (old s t u a b : List Token) → s ≡ old ++ (key name ∷ begin_object ∷ a) → t ≡ s ++ b
    → u ≡ t ++ (end_object ∷ []) → u ≡ old ++ object_field name (a ++ b)
inside_two name old s t u a b e f g =
    said_three old s t u (key name ∷ begin_object ∷ a) b (end_object ∷ []) e f g
    ∙ ap (λ x. old ++ (key name ∷ begin_object ∷ x)) (sym (append_assoc a b (end_object ∷ [])))

pub inside_three : (name : List ℕ) (old s t u v a b c : List Token) → s ≡ old ++ (key name ∷ begin_object ∷ a) → t ≡ s ++ b
    → u ≡ t ++ c → v ≡ u ++ (end_object ∷ []) → v ≡ old ++ object_field name (a ++ (b ++ c))
inside_three name old s t u v a b c e f g h =
    inside_two name old s u v a (b ++ c) e (said_two s t u b c f g) h
