-- Reading parts of one kind one after the other, as a loop does.
use Rattle.std.proofs.Common.{◌≡◌, ℕ, suc, List, [], ◌∷◌, ◌++◌, Option, Result, Ok, Err, refl, ap, ◌∙◌, append_assoc}
use Rattle.std.proofs.lemmas.List.{append-nil}
use Rattle.std.proofs.KnownBytes.{Consumes-trans, Consumes-nil}
use Rattle.std.specs.Io.KnownBytes.{Consumes}
use Rattle.image.specs.declared.fault.ImageFault.{ImageFault}
use Rattle.image.specs.Grammar.{Part, ◌>>=◌, each}
use Rattle.image.proofs.Taking.{Got, Stopped, after_known}

-- what was read before, and what is still read
abbrev with_front : {X : Type 0} → List X → Result (List X × List ℕ) ImageFault → Result (List X × List ℕ) ImageFault
with_front front read = read >>= λ x. Ok (front ++ x.0, x.1)

none_before : {X : Type 0} (read : Result (List X × List ℕ) ImageFault) → read ≡ with_front [] read
none_before (Ok x) = refl
none_before (Err fault) = refl

regroup : {X : Type 0} (front : List X) (x : X) (read : Result (List X × List ℕ) ImageFault)
    → with_front front (read >>= λ y. Ok (x ∷ y.0, y.1)) ≡ with_front (front ++ x ∷ []) read
regroup {X} front x (Ok y) = ap (λ (xs : List X). Ok (xs, y.1)) (simp append_assoc)
regroup front x (Err fault) = refl

-- of `count` parts some are read, and n are left, of which the one before has the number `before`
abbrev pub Goes : {X : Type 0} → (ℕ → Part X) → (X → ℕ) → ℕ → List X → ℕ → ℕ → Option (List ℕ) → Option (List ℕ) → Type 0
Goes part number count front n before a b =
    (bytes : List ℕ) × Consumes a b bytes
    × ((rest : List ℕ) → each part number count 0 (bytes ++ rest) ≡ with_front front (each part number n before rest))

module _ {X : Type 0} (part : ℕ → Part X) (number : X → ℕ) (count : ℕ) where
  pub Goes-begins : (n : ℕ) (a : Option (List ℕ)) → n ≡ count → Goes part number count [] n 0 a a
  Goes-begins n a e = ([], Consumes-nil a, λ rest. rw e (none_before (each part number count 0 rest)))

  one_step : (before n : ℕ) (front : List X) (x : X) (here rest : List ℕ) → part before here ≡ Ok (x, rest)
      → with_front front (each part number (suc n) before here) ≡ with_front (front ++ x ∷ []) (each part number n (number x) rest)
  one_step before n front x here rest e = rw e (regroup front x (each part number n (number x) rest))

  module _ (m n before : ℕ) (front : List X) (one : m ≡ suc n) (a b c : Option (List ℕ)) where
    pub Goes-on : (after : ℕ) (x : X) → after ≡ number x → Goes part number count front m before a b → Got (part before) b c x
        → Goes part number count (front ++ x ∷ []) n after a c
    Goes-on after x next so_far got = (
      so_far.0 ++ got.0,
      Consumes-trans a b c so_far.0 got.0 so_far.1 got.1,
      λ rest.
          rw (append_assoc so_far.0 got.0 rest, next)
          (so_far.2 (got.0 ++ rest) ∙ ap (λ k. with_front front (each part number k before (got.0 ++ rest))) one
          ∙ one_step before n front x (got.0 ++ rest) rest (got.2 rest)),
    )

    one_stop : (here : List ℕ) (fault : ImageFault) → part before here ≡ Err fault
        → with_front front (each part number m before here) ≡ Err fault
    one_stop here fault e = rw (one, e) refl

    pub Goes-stops : (fault : ImageFault) → Goes part number count front m before a b → Stopped (part before) b c fault
        → Stopped (each part number count 0) a c fault
    Goes-stops fault so_far stop = (
      (so_far.0 ++ stop.0.0, Consumes-trans a b c so_far.0 stop.0.0 so_far.1 stop.0.1),
      λ of_bytes.
          after_known a b so_far.0 (λ rest. part before rest ≡ Err fault) (λ all. each part number count 0 all ≡ Err fault) so_far.1
          (λ rest e. so_far.2 rest ∙ one_stop rest fault e) (stop.1 of_bytes),
    )

  pub Goes-ends : (n before : ℕ) (front : List X) (a b : Option (List ℕ)) → n ≡ 0
      → Goes part number count front n before a b → Got (each part number count 0) a b front
  Goes-ends n before front a b none so_far = (
    so_far.0,
    so_far.1,
    λ rest.
        so_far.2 rest ∙ ap (λ k. with_front front (each part number k before rest)) none
        ∙ ap (λ (xs : List X). Ok (xs, rest)) (append-nil front),
  )
