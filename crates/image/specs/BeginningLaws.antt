-- Writing one piece after another, to a sink whose bytes may be known.
use Rattle.std.proofs.Common.{◌≡◌, ℕ, suc, ◌+◌, ◌<◌, List, ◌++◌, length, get_or, take, drop, Option, refl, sym, ap, ◌∙◌, append_assoc}
use Rattle.std.proofs.Common.{arith}
use Rattle.std.proofs.lemmas.List.{take-append-le, take-append-drop, length-append}
use Rattle.std.proofs.lemmas.List.Concat.{flat_map-append}
use Rattle.std.proofs.Math.Seq.{take-append-add, drop-cons}
use Rattle.std.proofs.KnownBytes.{Appends-trans}
use Rattle.std.specs.List.{flat_map}
use Rattle.std.specs.Io.KnownBytes.{Appends}
use Rattle.image.specs.Devices.{AppendsBeginning}

-- a beginning of some bytes is one of more bytes
pub beginning_more : (a b : Option (List ℕ)) (bytes rest : List ℕ) → AppendsBeginning a b bytes → AppendsBeginning a b (bytes ++ rest)
beginning_more a b bytes rest h =
    (h.0, simp length-append (omega (arith, h.1)), rw (take-append-le h.0 bytes rest h.1) h.2)

-- all of some bytes, and a beginning of those after them
pub beginning_after : (a b c : Option (List ℕ)) (bytes rest : List ℕ) → Appends a b bytes → AppendsBeginning b c rest
    → AppendsBeginning a c (bytes ++ rest)
beginning_after a b c bytes rest all h = (
  length bytes + h.0,
  simp length-append (omega (arith, h.1)),
  rw (take-append-add bytes rest h.0)
      (Appends-trans a b c bytes (take h.0 rest) all h.2),
)

-- the pieces of a list, cut at one of its items
pub cut_at : {X : Type 0} (f : X → List ℕ) (xs : List X) (i : ℕ) (d : X) → i < length xs
    → (flat_map f (take i xs) ++ f (get_or xs i d)) ++ flat_map f (drop (suc i) xs) ≡ flat_map f xs
cut_at f xs i d lt =
    let parts : flat_map f (take i xs ++ drop i xs) ≡ flat_map f (take i xs) ++ flat_map f (drop i xs) =
    flat_map-append f (take i xs) (drop i xs) in
    let rest : flat_map f (drop i xs) ≡ f (get_or xs i d) ++ flat_map f (drop (suc i) xs) = rw (drop-cons xs i d lt) refl in
    append_assoc (flat_map f (take i xs)) (f (get_or xs i d)) (flat_map f (drop (suc i) xs))
    ∙ ap (λ (b : List ℕ). flat_map f (take i xs) ++ b) (sym rest) ∙ sym parts ∙ ap (flat_map f) (take-append-drop i xs)
