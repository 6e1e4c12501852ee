-- Ranges hold every address between two if they hold the first, and each at which one of them ends.
use Rattle.std.proofs.Common.{◌≡◌, ℕ, ◌+◌, ◌-◌, ◌<◌, ◌≤◌, List, [], ◌∷◌, zero, suc, subst, inl, inr, ◌⊎◌, arith}
use Rattle.std.proofs.lemmas.Bool.{cases_lt}
use Rattle.reach.specs.declared.range.Range.{Range}
use Rattle.reach.specs.Ranges.{IsIn, IsInOne}
use Rattle.reach.proofs.Determined.{head-in, rest-in, in-cases, none-in}
use Rattle.policy.specs.Cover.{IsSomeEndOut}

-- ---- an address lies in one of the ranges or in none

in_range : (r : Range) (a : ℕ) → IsIn r a ⊎ (IsIn r a → ⊥)
in_range r a = elim (cases_lt a r.from) [
  | inl below ↦ inr (λ inside. let low = inside.low in absurd (omega arith))
  | inr from ↦ elim (cases_lt a r.to) [
    | inl under ↦ inl (record { low = from; high = under })
    | inr past ↦ inr (λ inside. let high = inside.high in absurd (omega arith))
  ]
]

pub in_or_out : (ranges : List Range) (a : ℕ) → IsInOne ranges a ⊎ (IsInOne ranges a → ⊥)
in_or_out [] a = inr (none-in a)
in_or_out (r ∷ rs) a = elim (in_range r a) [
  | inl here ↦ inl (head-in r rs a here)
  | inr outside ↦ elim (in_or_out rs a) [
    | inl there ↦ inl (rest-in r rs a there)
    | inr none ↦ inr (λ one. elim (in-cases r rs a one) [ inl here ↦ outside here | inr there ↦ none there ])
  ]
]

-- ---- from one address to the next

module _ (ranges : List Range) (from to : ℕ) (ends : IsSomeEndOut ranges from to → ⊥) where
  next : (a : ℕ) → from ≤ a → a + 1 < to → IsInOne ranges a → IsInOne ranges (a + 1)
  next a low high one = elim (cases_lt (a + 1) one.range.to) [
    | inl under ↦
        let begin = one.inside.low in
        record { range = one.range; is_one = one.is_one; inside = record { low = omega arith; high = under } }
    | inr past ↦
        let end = one.inside.high in
        let here : one.range.to ≡ a + 1 = omega arith in
        elim (in_or_out ranges one.range.to) [
          | inl held ↦ subst (IsInOne ranges) here held
          | inr outside ↦ absurd (ends (record {
            range = one.range;
            is_one = one.is_one;
            low = omega arith;
            high = omega arith;
            outside = outside;
          }))
        ]
  ]

  far : (n : ℕ) → from + n < to → IsInOne ranges from → IsInOne ranges (from + n)
  far zero below first = let same : from ≡ from + zero = omega arith in subst (IsInOne ranges) same first
  far (suc n) below first =
      let same : from + n + 1 ≡ from + suc n = omega arith in
      subst (IsInOne ranges) same (next (from + n) (omega arith) (omega arith) (far n (omega arith) first))

  pub covered : IsInOne ranges from → (a : ℕ) → from ≤ a → a < to → IsInOne ranges a
  covered first a low high =
      let same : from + (a - from) ≡ a = omega arith in
      subst (IsInOne ranges) same (far (a - from) (omega arith) first)
