-- Labels, held by a map.
use Rattle.std.proofs.Common.{◌≡◌, ℕ, true, false, cond, nat_eq, List, [], ◌∷◌, ◌++◌, Option, None, Some, is_some, refl, ap, ◌∙◌}
use Rattle.std.specs.Cmp.Lexicographic.{pointwise}
use Rattle.std.specs.Map.{lookup}
use Rattle.std.specs.declared.vec.Vec.{Vec}
use Rattle.indexmap.specs.IndexMap.{insert_entry}
use Rattle.assembler.specs.Places.{Symbols, value_in, with_label}
use Rattle.assembler.specs.Labels.{seen_entries}

pub value_in-seen : {A : Type 0} (name : List ℕ) (es : List (Vec ℕ A × ℕ))
    → lookup (λ k. pointwise nat_eq name k.items) es ≡ value_in (seen_entries es) name
value_in-seen name [] = refl
value_in-seen name (e ∷ es) = ap (λ r. cond (pointwise nat_eq name e.0.items) (Some e.1) r) (value_in-seen name es)

pub seen-insert_entry : {A : Type 0} (k : Vec ℕ A) (v : ℕ) (es : List (Vec ℕ A × ℕ)) → value_in (seen_entries es) k.items ≡ None
    → seen_entries (insert_entry (λ x y. pointwise nat_eq x.items y.items) es k v) ≡ seen_entries es ++ (k.items, v) ∷ []
seen-insert_entry k v [] none = refl
seen-insert_entry k v (e ∷ es) none =
    elim (pointwise nat_eq k.items e.0.items) as
    (λ b. cond b (Some e.1) (value_in (seen_entries es) k.items) ≡ None
    → seen_entries (cond b ((e.0, v) ∷ es) (e ∷ insert_entry (λ x y. pointwise nat_eq x.items y.items) es k v))
    ≡ (e.0.items, e.1) ∷ seen_entries es ++ (k.items, v) ∷ []) [
      | true ↦ λ h. cc
      | false ↦ λ h. ap (λ r. (e.0.items, e.1) ∷ r) (seen-insert_entry k v es h)
    ] none

-- a name that has no value goes last
pub defined : {A : Type 0} (name : List ℕ) (k : Vec ℕ A) (v : ℕ) (es new : List (Vec ℕ A × ℕ)) (old : Symbols) (found : Option ℕ)
    → k.items ≡ name → seen_entries es ≡ old → found ≡ value_in old name → is_some found ≡ false
    → new ≡ insert_entry (λ x y. pointwise nat_eq x.items y.items) es k v
    → seen_entries new ≡ with_label (Some name) v old
defined name k v es new old None i s f h e =
    let none : value_in (seen_entries es) k.items ≡ None = cc in
    ap seen_entries e ∙ seen-insert_entry k v es none ∙ ap (λ n. seen_entries es ++ (n, v) ∷ []) i ∙ ap (λ o. o ++ (name, v) ∷ []) s
    ∙ ap (λ r. cond (is_some r) old (old ++ (name, v) ∷ [])) f
defined name k v es new old (Some x) i s f h e = cc
