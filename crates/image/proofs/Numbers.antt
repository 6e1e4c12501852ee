-- Numbers and their bytes.
use Rattle.std.proofs.Common.{◌≡◌, ℕ, ◌+◌, ◌≤◌, Bool, true, false, List, [], ◌∷◌, ◌++◌, length, take, drop, refl, sym, ap, subst, ◌∙◌}
use Rattle.std.proofs.Common.{arith}
use Rattle.std.proofs.Common.{inl, inr}
use Rattle.std.specs.Prelude.{if◌then◌else◌}
use Rattle.std.proofs.lemmas.Bool.{cases_lt}
use Rattle.std.proofs.lemmas.List.{length-take, length-take-le, length-drop, drop-drop, drop_all, drop_at, get_or-drop, get_or-take}
use Rattle.std.proofs.lemmas.List.{get_or_past}
use Rattle.std.proofs.lemmas.List.{take_at, take-append-drop}
use Rattle.std.proofs.lemmas.Nat.{le_bytes_4, le_bytes_8}
use Rattle.byteorder.specs.Endian.{little_bytes, little_number}
use Rattle.image.specs.Grammar.{AreBytes, fields, number_at}

AreBytes-drop : (n : ℕ) (bytes : List ℕ) → AreBytes bytes → AreBytes (drop n bytes)
AreBytes-drop n bytes h i = rw get_or-drop (h (n + i))

AreBytes-take : (n : ℕ) (bytes : List ℕ) → AreBytes bytes → AreBytes (take n bytes)
AreBytes-take n bytes h i =
    elim (cases_lt i n) [
      | inl lt ↦ rw (get_or-take n bytes i 0 lt) (h i)
      | inr le ↦ rw (get_or_past (take n bytes) i 0 (omega (arith, length-take n bytes))) (omega arith)
    ]

-- of bytes that are cut in two, both are bytes
pub AreBytes-front : (bytes front rest : List ℕ) → AreBytes bytes → bytes ≡ front ++ rest → AreBytes front
AreBytes-front bytes front rest fits e =
    subst AreBytes (ap (take (length front)) e ∙ take_at front rest (length front) refl) (AreBytes-take (length front) bytes fits)

pub AreBytes-rest : (bytes front rest : List ℕ) → AreBytes bytes → bytes ≡ front ++ rest → AreBytes rest
AreBytes-rest bytes front rest fits e =
    subst AreBytes (ap (drop (length front)) e ∙ drop_at front rest (length front) refl) (AreBytes-drop (length front) bytes fits)

-- ---- fields, one after the other: a number of 4 bytes each, or of 8 if it is wide

abbrev width : Bool → ℕ
width wide = if wide then 8 else 4

back : (wide : Bool) (bytes : List ℕ) → length bytes ≡ width wide → AreBytes bytes
    → little_bytes (width wide) (little_number (width wide) bytes) ≡ bytes
back true bytes len fits = le_bytes_8 bytes (little_number 8 bytes) len fits (omega arith)
back false bytes len fits = le_bytes_4 bytes (little_number 4 bytes) len fits (omega arith)

-- where fields from a place on end
abbrev end_of : List Bool → ℕ → ℕ
end_of [] place = place
end_of (wide ∷ others) place = end_of others (place + width wide)

end-past : (wides : List Bool) (place : ℕ) → place ≤ end_of wides place
end-past [] place = omega arith
end-past (wide ∷ others) place = omega (arith, end-past others (place + width wide))

-- the fields from a place on
abbrev fields_at : List Bool → ℕ → List ℕ → List (ℕ × ℕ)
fields_at [] place bytes = []
fields_at (wide ∷ others) place bytes = (width wide, number_at place (width wide) bytes) ∷ fields_at others (place + width wide) bytes

-- are spelt by the bytes from there on
pub fields_back : (wides : List Bool) (place : ℕ) (bytes : List ℕ) → AreBytes bytes → length bytes ≡ end_of wides place
    → drop place bytes ≡ fields (fields_at wides place bytes)
fields_back [] place bytes fits len = drop_all place bytes (omega (arith, len))
fields_back (wide ∷ others) place bytes fits len =
    let size = width wide in
    let here = drop place bytes in
    let within : size ≤ length here = omega (arith, len, end-past others (place + size), length-drop place bytes) in
    let number = back wide (take size here) (length-take-le size here within) (AreBytes-take size here (AreBytes-drop place bytes fits)) in
    sym (take-append-drop size here) ∙ ap (λ (l : List ℕ). l ++ drop size here) (sym number)
    ∙ ap (λ (l : List ℕ). little_bytes size (number_at place size bytes) ++ l)
    (drop-drop size place bytes ∙ fields_back others (place + size) bytes fits len)
