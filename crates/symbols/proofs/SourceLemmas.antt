-- Lines of sources: how they are shown and where they stand; and labels and lines apart.
use Rattle.std.proofs.Common.{◌≡◌, ℕ, zero, suc, ◌+◌, ◌-◌, ◌<◌, ◌≤◌, Bool, true, false, ◌&&◌, List, [], ◌∷◌, ◌++◌, Option, Some, None}
use Rattle.std.proofs.Common.{refl, ap, sym, ◌∙◌, map, take, drop, length, append_assoc, arith}
use Rattle.std.specs.Prelude.{◌==◌, nat_le, slice_get, option_map, if◌then◌else◌, IsTrue}
use Rattle.std.specs.List.{AllByRecursion, list_all}
use Rattle.std.specs.Str.{IsAscii, IsUtf8}
use Rattle.std.proofs.lemmas.Bool.Decides.{nat_tests}
use Rattle.std.proofs.lemmas.Str.{IsUtf8-from_ascii}
use Rattle.std.proofs.lemmas.Str.Ascii.{IsAscii-cons, IsAscii-nil}
use Rattle.symbols.specs.Places.{left_at}
use Rattle.symbols.specs.Symbols.{Symbol, has_address, labels_in, lines_in, name_among, symbol_of, symbols_in, is_symbol}
use Rattle.symbols.specs.Sources.{is_place, is_shown, is_shown_byte, place_of, places_in, shown_byte, shown_place}
use Rattle.symbols.proofs.PlaceLemmas.{Stands, stands}

-- ---- what is shown

byte_shown : (b : ℕ) → is_shown_byte (shown_byte b) ≡ true
byte_shown b = elim (nat_le 32 b && nat_le b 126) as (λ t. (nat_le 32 b && nat_le b 126) ≡ t → is_shown_byte (shown_byte b) ≡ true) [
  | true ↦ λ e. rw e e
  | false ↦ λ e. rw e refl
] refl

all_shown : (bs : List ℕ) → list_all is_shown_byte (map shown_byte bs) ≡ true
all_shown [] = refl
all_shown (b ∷ bs) = rw (byte_shown b) (all_shown bs)

few : (n : ℕ) (bs : List ℕ) → length (map shown_byte (take n bs)) ≤ n
few zero bs = omega arith
few (suc n) [] = omega arith
few (suc n) (b ∷ bs) = omega (arith, few n bs)

pub shown_is_shown : (text : List ℕ) → IsTrue (is_shown (shown_place text))
unfolding is_shown
shown_is_shown text =
    let all = all_shown (take 240 text) in
    let within : nat_le (length (shown_place text)) 240 ≡ true = grind (arith, nat_tests, few 240 text) in
    rw (all, within) refl

left : (a b : Bool) → (a && b) ≡ true → a ≡ true
left true b h = refl
left false b h = h

right : (a b : Bool) → (a && b) ≡ true → b ≡ true
right true b h = h
right false true h = refl
right false false h = h

small : (b : ℕ) → is_shown_byte b ≡ true → b < 128
small b h = grind (arith, nat_tests)

shown_ascii : (bs : List ℕ) → list_all is_shown_byte bs ≡ true → IsAscii bs
shown_ascii [] h = IsAscii-nil
shown_ascii (b ∷ bs) h = IsAscii-cons b bs (small b (left _ _ h)) (shown_ascii bs (right _ _ h))

pub shown_text : (text : List ℕ) → IsTrue (is_shown text) → IsUtf8 text
unfolding is_shown
shown_text text h = IsUtf8-from_ascii text (shown_ascii text (left _ _ h))

pub shown_within : (text : List ℕ) → IsTrue (is_shown text) → length text ≤ 240
unfolding is_shown
shown_within text h =
    let k : nat_le (length text) 240 ≡ true = right (list_all is_shown_byte text) (nat_le (length text) 240) h in
    grind (arith, nat_tests)

-- ---- the first line of an address

pub line_there : (symbols : List Symbol) (address n : ℕ) → left_at symbols address ≡ Some n
    → name_among symbols address ≡ option_map (λ s. s.name) (slice_get symbols (length symbols - n))
line_there [] address n h = cc
line_there (s ∷ ss) address n h = elim (s.address == address) as (λ t. (s.address == address) ≡ t
    → name_among (s ∷ ss) address ≡ option_map (λ s. s.name) (slice_get (s ∷ ss) (length (s ∷ ss) - n))) [
      | true ↦ λ e.
          let k : Some (suc (length ss)) ≡ Some n = rw e at h in
          let m : suc (length ss) ≡ n = cc in
          let z : suc (length ss) - n ≡ 0 = omega (arith, m) in
          rw (e, z) refl
      | false ↦ λ e.
          let k : left_at ss address ≡ Some n = rw e at h in
          let z : suc (length ss) - n ≡ suc (length ss - n) = omega (arith, (stands ss address n k).within) in
          rw (e, z) (line_there ss address n k)
    ] refl

pub no_line : (symbols : List Symbol) (address : ℕ) → left_at symbols address ≡ None → name_among symbols address ≡ None
no_line [] address h = refl
no_line (s ∷ ss) address h = elim (s.address == address) as (λ t. (s.address == address) ≡ t → name_among (s ∷ ss) address ≡ None) [
  | true ↦ λ e. let k : Some (suc (length ss)) ≡ None = rw e at h in cc
  | false ↦ λ e. let k : left_at ss address ≡ None = rw e at h in rw e (no_line ss address k)
] refl

-- ---- labels and lines apart

abbrev pub AreOf : Bool → List Symbol → Type 0
AreOf kind symbols = AllByRecursion (λ s. s.is_line ≡ kind) symbols

pub lines_left_out : (ys : List Symbol) → AreOf true ys → labels_in ys ≡ []
lines_left_out [] h = refl
lines_left_out (y ∷ ys) h = rw (h.0) (lines_left_out ys h.1)

pub labels_apart : (xs ys : List Symbol) → AreOf false xs → AreOf true ys → labels_in (xs ++ ys) ≡ xs
labels_apart [] ys a b = lines_left_out ys b
labels_apart (x ∷ xs) ys a b = rw (a.0, labels_apart xs ys a.1 b) refl

pub lines_alone : (ys : List Symbol) → AreOf true ys → lines_in ys ≡ ys
lines_alone [] h = refl
lines_alone (y ∷ ys) h = rw (h.0, lines_alone ys h.1) refl

pub lines_apart : (xs ys : List Symbol) → AreOf false xs → AreOf true ys → lines_in (xs ++ ys) ≡ ys
lines_apart [] ys a b = lines_alone ys b
lines_apart (x ∷ xs) ys a b = rw (a.0) (lines_apart xs ys a.1 b)

pub are_labels : (lines : List (List ℕ)) → AreOf false (symbols_in lines)
unfolding symbol_of
are_labels [] = tt
are_labels (line ∷ lines) = elim (is_symbol line) as (λ t. is_symbol line ≡ t → AreOf false (symbols_in (line ∷ lines))) [
  | true ↦ λ e. rw e (refl, are_labels lines)
  | false ↦ λ e. rw e (are_labels lines)
] refl

pub are_lines : (lines : List (List ℕ)) → AreOf true (places_in lines)
unfolding place_of
are_lines [] = tt
are_lines (line ∷ lines) = elim (is_place line) as (λ t. is_place line ≡ t → AreOf true (places_in (line ∷ lines))) [
  | true ↦ λ e. rw e (refl, are_lines lines)
  | false ↦ λ e. rw e (are_lines lines)
] refl

pub both_are : (kind : Bool) (xs ys : List Symbol) → AreOf kind xs → AreOf kind ys → AreOf kind (xs ++ ys)
both_are kind [] ys a b = b
both_are kind (x ∷ xs) ys a b = (a.0, both_are kind xs ys a.1 b)

-- the places of a line before those of the others
pub first_places : (line : List ℕ) (lines : List (List ℕ)) → places_in (line ∷ lines) ≡ places_in (line ∷ []) ++ places_in lines
first_places line lines =
    elim (is_place line) as (λ t. is_place line ≡ t → places_in (line ∷ lines) ≡ places_in (line ∷ []) ++ places_in lines) [
      | true ↦ λ e. rw e refl
      | false ↦ λ e. rw e refl
    ] refl

pub place_has_address : (line : List ℕ) → IsTrue (is_place line) → IsTrue (has_address line)
unfolding is_place
place_has_address line h = left _ _ h
