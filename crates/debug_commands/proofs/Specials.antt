-- A special register that a name names is one of those that there are.
use Rattle.std.proofs.Common.{◌≡◌, ℕ, Bool, true, false, ◌||◌, List, [], ◌∷◌, Some, refl, arith}
use Rattle.std.specs.Cmp.Lexicographic.{pointwise}
use Rattle.std.specs.Prelude.{◌==◌, find, nat_eq, option_map}
use Rattle.std.specs.List.{list_any}
use Rattle.std.proofs.lemmas.Bool.Decides.{nat_tests}
use Rattle.base.specs.Registers.{is_scr, special_registers}
use Rattle.asm_names.specs.SpecialNames.{scr_named}

module _ (p : ℕ × List ℕ → Bool) (n : ℕ) where
  abbrev IsListed : List (ℕ × List ℕ) → Type 0
  IsListed names = option_map (λ r. r.0) (find p names) ≡ Some n → list_any (λ r. r.0 == n) names ≡ true

  same : (m : ℕ) (b : Bool) → Some m ≡ Some n → (m == n || b) ≡ true
  same m b h = grind (arith, nat_tests)

  later : (m : ℕ) (b : Bool) → b ≡ true → (m == n || b) ≡ true
  later m b h = grind (arith, nat_tests)

  listed_at : (r : ℕ × List ℕ) (rs : List (ℕ × List ℕ)) → IsListed rs → (b : Bool) → p r ≡ b → IsListed (r ∷ rs)
  listed_at r rs ih true e h = same r.0 _ (rw e at h)
  listed_at r rs ih false e h = later r.0 _ (ih (rw e at h))

  listed : (rs : List (ℕ × List ℕ)) → IsListed rs
  listed [] h = cc
  listed (r ∷ rs) h = listed_at r rs (listed rs) (p r) refl h

pub named_is_special : (text : List ℕ) (n : ℕ) → scr_named text ≡ Some n → is_scr n ≡ true
unfolding scr_named
named_is_special text n h = listed (λ r. pointwise nat_eq r.1 text) n special_registers h
