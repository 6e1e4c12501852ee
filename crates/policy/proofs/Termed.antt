-- The terms of rules, place by place.
use Rattle.std.proofs.Common.{◌≡◌, ℕ, zero, suc, ◌<◌, ◌≤◌, List, [], ◌∷◌, ◌+◌, drop, length, get_or, refl, ap, arith}
use Rattle.std.proofs.lemmas.List.{drop_all, length-map}
use Rattle.policy.specs.declared.rule.Rule.{Rule}
use Rattle.policy.specs.Terms.{terms, terms_of}

pub termed-below : (rules : List Rule) (k : ℕ) → k < length rules → k < length (terms_of rules)
termed-below rules k below = omega (arith, below, length-map rules terms)

pub termed-at : (rules : List Rule) (k : ℕ) (x : Rule) → x ≡ get_or rules k x → terms x ≡ get_or (terms_of rules) k (terms x)
termed-at [] k x at = refl
termed-at (r ∷ rs) zero x at = ap terms at
termed-at (r ∷ rs) (suc k) x at = termed-at rs k x at

one_more : (k : ℕ) → suc k + 1 ≡ suc (k + 1)
one_more k = omega arith

-- the next of those that are left
pub termed-rest : (rules : List Rule) (k : ℕ) (d : Rule) → k < length rules
    → drop k (terms_of rules) ≡ terms (get_or rules k d) ∷ drop (k + 1) (terms_of rules)
termed-rest [] k d below = absurd (omega arith)
termed-rest (r ∷ rs) zero d below = refl
termed-rest (r ∷ rs) (suc k) d below = rw (one_more k) (termed-rest rs k d (omega arith))

-- none is left
pub termed-none : (rules : List Rule) (k : ℕ) → length rules ≤ k → drop k (terms_of rules) ≡ []
termed-none rules k past = drop_all k (terms_of rules) (omega (arith, past, length-map rules terms))
