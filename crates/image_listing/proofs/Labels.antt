-- The lines of labels, one after the other.
use Rattle.std.proofs.Common.{◌≡◌, ℕ, List, [], ◌∷◌, ◌++◌, ◌∙◌, ap, sym, append_assoc, append-nil}
use Rattle.std.proofs.lemmas.List.Concat.{flat_map-append}
use Rattle.std.specs.List.{flat_map}
use Rattle.image_listing.specs.Named.{label_line}

-- the line of a name after those of the names before it
pub next_label : (done : List (List ℕ)) (name : List ℕ)
    → flat_map label_line done ++ label_line name ≡ flat_map label_line (done ++ (name ∷ []))
next_label done name =
    ap (λ line. flat_map label_line done ++ line) (sym (append-nil (label_line name)))
    ∙ sym (flat_map-append label_line done (name ∷ []))

module _ (done names rest whole : List (List ℕ)) (name : List ℕ) (next : names ≡ name ∷ rest) (all : done ++ names ≡ whole) where
  -- the names so far and those after the next one
  pub past_next : (done ++ (name ∷ [])) ++ rest ≡ whole
  past_next = append_assoc done (name ∷ []) rest ∙ ap (λ ns. done ++ ns) (sym next) ∙ all

  -- all lines, where the line of the next name stands between those before it and those after it
  pub cut_at_next : (flat_map label_line done ++ label_line name) ++ flat_map label_line rest ≡ flat_map label_line whole
  cut_at_next =
      append_assoc (flat_map label_line done) (label_line name) (flat_map label_line rest)
      ∙ sym (flat_map-append label_line done (name ∷ rest))
      ∙ ap (flat_map label_line) (ap (λ ns. done ++ ns) (sym next) ∙ all)

-- no names are left
pub all_done : (done names whole : List (List ℕ)) → names ≡ [] → done ++ names ≡ whole → done ≡ whole
all_done done names whole none all = sym (append-nil done) ∙ ap (λ ns. done ++ ns) (sym none) ∙ all
