-- What C says that a machine was given is what a past has of it, or nothing can be.
use Rattle.std.proofs.Common.{◌≡◌, ℕ, ◌+◌, ◌<◌, ◌≤◌, ◌^◌, ◌⊎◌, List, [], ◌∷◌, ◌++◌, take, drop}
use Rattle.std.proofs.Common.{get_or, length, inl, inr, refl, sym, ap, ap₂, ◌∙◌, arith}
use Rattle.std.proofs.lemmas.List.{drop_more, map-append, take-append-drop, take_more}
use Rattle.std.specs.Prelude.{Option, None, Some, map, Result, Ok, Err, IfErr}
use Rattle.std.specs.Option.{unwrap_or}
use Rattle.image.specs.declared.fault.ImageFault.TheVariants.{L11}
use Rattle.origins.specs.declared.place.Place.{Place}
use Rattle.past.specs.Given.{PastState, count_of, count_of_one}
use Rattle.past.specs.declared.given.Given.{Given}
use Rattle.cherisim_c.specs.declared.types.Noted.{Noted}
use Rattle.cherisim_c.specs.declared.types.PlaceAsked.{PlaceAsked}
use Rattle.cherisim_c.specs.Pasts.{IsNoPast, IsPast, IsPastRefusal, IsPlaceOf, IsPlaceRefusal, given_of}
use Rattle.cherisim_c.specs.Status.{no_memory, out_of_range}

abbrev first : List (Option Given) → Option Given
first [] = None
first (x ∷ xs) = x

abbrev rest : List (Option Given) → List (Option Given)
rest [] = []
rest (x ∷ xs) = xs

-- what is said after others is given after them
more_than : (said : List Noted) (n : Noted) (later : List Noted) (before given : List Given)
    → map given_of said ≡ map Some before → map given_of (said ++ n ∷ later) ≡ map Some given
    → (g : Given) × (given_of n ≡ Some g) × (count_of before + count_of_one g ≤ count_of given)
more_than [] n later before [] none all = absurd (cc)
more_than [] n later (b ∷ bs) given none all = absurd (cc)
more_than [] n later [] (g ∷ gs) none all = (g, ap first all, omega arith)
more_than (m ∷ ms) n later [] given same all = absurd (cc)
more_than (m ∷ ms) n later (b ∷ bs) [] same all = absurd (cc)
more_than (m ∷ ms) n later (b ∷ bs) (g ∷ gs) same all =
    let found = more_than ms n later bs gs (ap rest same) (ap rest all) in
    let one : Some b ≡ Some g = sym (ap first same) ∙ ap first all in
    let is : b ≡ g = ap (λ o. unwrap_or o b) one in
    (found.0, found.1, omega (arith, found.2, ap count_of_one is))

-- one more
pub noted_one : (all : List Noted) (i : ℕ) (d : Noted) (before : List Given) (g : Given) → i < length all
    → map given_of (take i all) ≡ map Some before → given_of (get_or all i d) ≡ Some g
    → map given_of (take (i + 1) all) ≡ map Some (before ++ g ∷ [])
noted_one all i d before g few same one =
    ap (map given_of) (take_more all i d few) ∙ map-append given_of (take i all) (get_or all i d ∷ [])
    ∙ ap₂ (λ xs o. xs ++ o ∷ []) same one ∙ sym (map-append Some before (g ∷ []))

-- where one can't be given after those before it, nothing is a past
pub none_can : (all : List Noted) (i : ℕ) (d : Noted) (before : List Given) → i < length all
    → map given_of (take i all) ≡ map Some before
    → ((g : Given) → given_of (get_or all i d) ≡ Some g → 2 ^ 64 ≤ count_of before + count_of_one g) → IsNoPast all
none_can all i d before few same over given are less =
    let parted : take i all ++ get_or all i d ∷ drop (i + 1) all ≡ all =
    ap (λ xs. take i all ++ xs) (sym (drop_more all i d few)) ∙ take-append-drop i all in
    let found = more_than (take i all) (get_or all i d) (drop (i + 1) all) before given same (ap (map given_of) parted ∙ are) in
    let more = over found.0 found.1 in
    omega (arith, more, found.2, less)

-- ---- refusals

pub none_noted : (all : List Noted) (i : ℕ) (d : Noted) (before : List Given) (status : ℕ) → i < length all
    → map given_of (take i all) ≡ map Some before
    → (status ≡ no_memory) ⊎ ((status ≡ out_of_range)
    × ((g : Given) → given_of (get_or all i d) ≡ Some g → 2 ^ 64 ≤ count_of before + count_of_one g))
    → (status ≡ no_memory) ⊎ ((status ≡ out_of_range) × IsNoPast all)
none_noted all i d before status few same (inl is) = inl is
none_noted all i d before status few same (inr refused) = inr (refused.0, none_can all i d before few same refused.1)

pub of_memory : (bytes : List ℕ) (noted : List Noted) → IsPastRefusal bytes noted no_memory
of_memory bytes noted = inl (record { fault = L11; number = refl; of_bytes = λ of_bytes. absurd of_bytes })

refused_as : (bytes : List ℕ) (noted : List Noted) (status : ℕ) → (status ≡ no_memory) ⊎ ((status ≡ out_of_range) × IsNoPast noted)
    → IsPastRefusal bytes noted status
refused_as bytes noted status (inl is) = inl (record { fault = L11; number = is; of_bytes = λ of_bytes. absurd of_bytes })
refused_as bytes noted status (inr refused) = inr refused

pub of_given : {X : Type 0} (bytes : List ℕ) (noted : List Noted) (result : Result X ℕ)
    → IfErr result (λ status. (status ≡ no_memory) ⊎ ((status ≡ out_of_range) × IsNoPast noted))
    → IfErr result (IsPastRefusal bytes noted)
of_given bytes noted (Ok x) is = tt
of_given bytes noted (Err status) is = refused_as bytes noted status is

pub of_place : (bytes : List ℕ) (noted : List Noted) (asked : PlaceAsked) (past : PastState) (status : ℕ) → IsPast bytes noted past
    → (status ≡ no_memory) ⊎ ((status ≡ out_of_range) × ((place : Place) → IsPlaceOf asked past place → ⊥))
    → IsPlaceRefusal bytes noted asked status
of_place bytes noted asked past status is_past (inl is) = inl (refused_as bytes noted status (inl is))
of_place bytes noted asked past status is_past (inr refused) = inr (refused.0, (past, is_past, refused.1))
