-- A register that holds what was written last reads the bits that the write set.
use Rattle.std.proofs.Common.{◌≡◌, ℕ, ◌<◌, ◌==◌, Bool, List, [], ◌∷◌, length, Option, Some, None, refl, sym, ap, subst, ◌∙◌, lit<}
use Rattle.std.specs.Prelude.{bit_and, option_and_then, option_map, position, slice_index, unwrap_or}
use Rattle.std.proofs.lemmas.List.{get_or-set_same}
use Rattle.std.proofs.lemmas.List.Quantifiers.{position-Some}
use Rattle.base.specs.declared.registers.Holds.{Holds}
use Rattle.base.specs.declared.registers.Holds.TheVariants.{Written, Fixed, Part}
use Rattle.base.specs.declared.registers.TheConstants.{CSRS}
use Rattle.special_regs.specs.declared.csrs.Csrs.{Csrs}
use Rattle.special_regs.specs.Csrs.{holds_at, place_of, bits_of, bits_at}
use Rattle.special_regs.specs.CsrValues.{read_by, listed_value}
use Rattle.special_regs.specs.Writes.{kept_by, kept_written}

first-below : {X : Type 0} (test : X → Bool) (xs : List X) → 0 < length xs → unwrap_or (position test xs) 0 < length xs
first-below test [] some = some
first-below test (x ∷ xs) some =
    elim (position test (x ∷ xs)) as (λ at. position test (x ∷ xs) ≡ at → unwrap_or at 0 < length (x ∷ xs)) [
      | Some i ↦ λ is. (position-Some test (x ∷ xs) i x is).0
      | None ↦ λ _. some
    ] refl

place_of-below : (n : ℕ) → place_of n < length CSRS
place_of-below n = first-below (λ r. r.0 == n) CSRS (lit< tt)

holds-written : (holds : Option Holds) (bits : ℕ) → option_and_then bits_of holds ≡ Some bits → holds ≡ Some (Written bits)
holds-written (Some (Written b)) bits is = ap (λ (o : Option ℕ). option_map (λ n. Written n) o) is
holds-written (Some (Fixed n)) bits is = cc
holds-written (Some Part) bits is = cc
holds-written None bits is = cc

read-back : (at : Option ℕ) (holds : Option Holds) (place value bits : ℕ) (kept : List ℕ) → place < length kept → at ≡ Some bits
    → holds ≡ Some (Written bits)
    → option_map (λ h. read_by h (slice_index (kept_by at place value kept) place)) holds ≡ Some (bit_and value bits)
read-back at holds place value bits kept inside is written =
    rw (is, written) (ap Some (get_or-set_same kept place (bit_and value bits) 0 inside))

pub written-listed_value : (c later : Csrs) (n value bits : ℕ) → length c.kept ≡ length CSRS → later.kept ≡ kept_written n value c.kept
    → bits_at n ≡ Some bits → listed_value later n ≡ Some (bit_and value bits)
written-listed_value c later n value bits count kept is =
    ap (λ ks. option_map (λ h. read_by h (slice_index ks (place_of n))) (holds_at n)) kept
    ∙ read-back (bits_at n) (holds_at n) (place_of n) value bits c.kept (subst (λ k. place_of n < k) (sym count) (place_of-below n)) is
    (holds-written (holds_at n) bits is)
