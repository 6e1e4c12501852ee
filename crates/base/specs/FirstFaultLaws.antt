-- The first fault of a list of conditions, and of two lists.
use Rattle.std.proofs.Common.{◌≡◌, Bool, true, false, cond, List, [], ◌∷◌, ◌++◌, Some, None, refl}
use Rattle.std.specs.Prelude.{IfSome}
use Rattle.std.specs.Option.{option_or}
use Rattle.base.specs.FirstFault.{first_fault}

-- what is true of each fault of a list of conditions
abbrev pub OfEach : {F : Type 0} → (F → Type 0) → List (Bool × F) → Type 0
OfEach P [] = Unit {0}
OfEach P (check ∷ checks) = P check.1 × OfEach P checks

-- is true of the first
pub first_fault-each : {F : Type 0} (P : F → Type 0) (checks : List (Bool × F)) → OfEach P checks → IfSome (first_fault checks) P
first_fault-each P [] each = tt
first_fault-each P (check ∷ checks) each =
    elim check.0 as (λ b. IfSome (cond b (first_fault checks) (Some check.1)) P)
    [ true ↦ first_fault-each P checks each.1 | false ↦ each.0 ]

-- each condition is true
abbrev pub EachHolds : {F : Type 0} → List (Bool × F) → Type 0
EachHolds [] = Unit {0}
EachHolds (check ∷ checks) = (check.0 ≡ true) × EachHolds checks

-- where a condition and those after it have no fault, it is true, and those have none
pub first_fault-cons : {F : Type 0} (condition : Bool) (fault : F) (checks : List (Bool × F))
    → cond condition (first_fault checks) (Some fault) ≡ None → (condition ≡ true) × (first_fault checks ≡ None)
first_fault-cons true fault checks none = (refl, none)
first_fault-cons false fault checks none = cc

-- where there is no fault, each condition is true
pub first_fault-none : {F : Type 0} (checks : List (Bool × F)) → first_fault checks ≡ None → EachHolds checks
first_fault-none [] none = tt
first_fault-none (check ∷ checks) none =
    let both = first_fault-cons check.0 check.1 checks none in
    (both.0, first_fault-none checks both.1)

-- two lists have the fault of the first, or else that of the second
pub first_fault-append : {F : Type 0} (checks others : List (Bool × F))
    → first_fault (checks ++ others) ≡ option_or (first_fault checks) (first_fault others)
first_fault-append [] others = refl
first_fault-append (check ∷ checks) others =
    elim check.0 as
    (λ b. cond b (first_fault (checks ++ others)) (Some check.1)
    ≡ option_or (cond b (first_fault checks) (Some check.1)) (first_fault others))
    [ true ↦ first_fault-append checks others | false ↦ refl ]
