-- A number that is listed has a value.
use Rattle.std.proofs.Common.{◌≡◌, ℕ, true, false, cond, eqb, List, [], ◌∷◌, Option, Some, None, refl, ◌||◌}
use Rattle.std.specs.Prelude.{IsSome, option_map}
use Rattle.std.specs.List.{list_any}
use Rattle.std.specs.Option.{option_or}
use Rattle.special_regs.specs.Numbered.{value_at}
use Rattle.special_regs.specs.declared.csrs.Csrs.{Csrs}
use Rattle.base.specs.Registers.{is_scr}
use Rattle.special_regs.specs.Scrs.{Scrs, scr_value, scr_values}
use Rattle.base.specs.Registers.{is_csr}
use Rattle.base.specs.Registers.{held}
use Rattle.special_regs.specs.Csrs.{holds_at}
use Rattle.special_regs.specs.CsrValues.{csr_value, csr_values, listed_value}

IsSome-value_at : {X : Type 0} (n : ℕ) (entries : List (ℕ × X)) → list_any (λ e. eqb e.0 n) entries ≡ true → IsSome (value_at n entries)
IsSome-value_at n [] listed = cc
IsSome-value_at n (e ∷ entries) listed =
    elim (eqb e.0 n) as (λ b. (b || list_any (λ e. eqb e.0 n) entries) ≡ true → IsSome (cond b (Some e.1) (value_at n entries))) [
      | true ↦ λ _. refl
      | false ↦ λ listed. IsSome-value_at n entries listed
    ] listed

pub IsSome-scr_value : (s : Scrs) (n : ℕ) → is_scr n ≡ true → IsSome (scr_value s n)
unfolding scr_value
IsSome-scr_value s n listed = IsSome-value_at n (scr_values s) listed

some-or : {X : Type 0} (a b : Option X) → IsSome b → IsSome (option_or a b)
some-or None b some = some
some-or (Some x) b some = refl

some-map : {X Y : Type 0} (f : X → Y) (a : Option X) → IsSome a → IsSome (option_map f a)
some-map f (Some x) some = refl
some-map f None some = cc

pub IsSome-csr_value : (c : Csrs) (s : Scrs) (mip n : ℕ) → is_csr n ≡ true → IsSome (csr_value c s mip n)
unfolding csr_value
IsSome-csr_value c s mip n listed =
    some-or (value_at n (csr_values c s mip)) (listed_value c n) (some-map _ (holds_at n) (IsSome-value_at n held listed))
