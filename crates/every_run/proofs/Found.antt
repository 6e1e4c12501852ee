-- A search that begins with all registers, and which no door leads out of, finds all.
use Rattle.std.proofs.Common.{◌≡◌, Bool, true, false, List, [], ◌∷◌, ◌++◌, map, refl, sym, ap, ◌∙◌, subst}
use Rattle.std.proofs.lemmas.List.{map-append}
use Rattle.std.proofs.lemmas.List.Elements.{Contains-append_left}
use Rattle.std.specs.Bool.{beq}
use Rattle.std.proofs.lemmas.Bool.{and_parts, eqb-true}
use Rattle.std.specs.List.{Contains}
use Rattle.cap_bounds.specs.CapValue.{CapValue, IsSound, is_tagged, value_of, word_of}
use Rattle.cap_bounds.specs.RecordLaws.{value_of-word_of}
use Rattle.cap_rights.specs.Derivations.{equal_exact}
use Rattle.cap_rights.specs.Opened.{opened}
use Rattle.tagged_memory.specs.Memory.{Memory, has_tag, word_at}
use Rattle.reached.specs.Reached.{IsReachedFrom, from_root, from_granule}
use Rattle.doors.specs.Closed.{HasDoors, IsOpenedBy}
use Rattle.every_run.specs.Members.{HoldAll}

-- what a value is without its seal is among the values, if one of them opens it
abbrev pub HasBehind : List CapValue → CapValue → Type 0
HasBehind vs v = (key : CapValue) → Contains vs key → IsOpenedBy v key → Contains vs (opened v)

-- the search begins with what it is to find, and perhaps with more
abbrev pub BeginsWithAll : List CapValue → List CapValue → Type 0
BeginsWithAll starts begin = (v : CapValue) → Contains begin v → Contains starts v

pub all-found : (begin starts none : List CapValue) (m memory : Memory) → m ≡ memory → BeginsWithAll starts begin → (vs : List CapValue)
    → ((v : CapValue) → Contains vs v → IsReachedFrom starts none m v) → ((v : CapValue) → IsReachedFrom starts none m v → Contains vs v)
    → HasDoors (Contains vs) → HoldAll vs begin memory
all-found begin starts none m memory same begun vs sound complete doors = record {
  roots = λ v tagged there. complete v (from_root tagged (begun v there));
  granules = λ c v granule member opens here.
      complete v (from_granule granule (sound c member) opens (record {
        tagged = subst (λ x. has_tag x granule ≡ true) (sym same) here.tagged;
        value = subst (λ x. v ≡ value_of (word_at x granule) true) (sym same) here.value;
      }));
  doors = doors;
}

same-tags : (a b : Bool) → beq a b ≡ true → a ≡ b
same-tags true true same = refl
same-tags true false same = cc
same-tags false true same = cc
same-tags false false same = refl

-- sound values with the same tag and the same bits are one
pub same-value : (v w : CapValue) → IsSound v → IsSound w → equal_exact v w ≡ true → v ≡ w
unfolding equal_exact
same-value v w sound other same =
    let both = and_parts _ _ same in
    sym (value_of-word_of v sound)
    ∙ ap (λ t. value_of (word_of v) t) (same-tags (is_tagged v) (is_tagged w) both.0)
    ∙ ap (λ n. value_of n (is_tagged w)) (eqb-true (word_of v) (word_of w) both.1)
    ∙ value_of-word_of w other

-- a search that begins with more begins with all
pub begun-more : {X : Type 0} (f : X → CapValue) (begin : List CapValue) (starts later : List X) (x : X) → later ≡ starts ++ x ∷ []
    → BeginsWithAll (map f starts) begin → BeginsWithAll (map f later) begin
begun-more f begin starts later x pushed begun v there =
    subst (λ xs. Contains xs v) (sym (ap (map f) pushed ∙ map-append f starts (x ∷ [])))
    (Contains-append_left (map f starts) (f x ∷ []) v (begun v there))
