-- The least number is one that passes, and none before it passes.
use Rattle.std.proofs.Common.{◌≡◌, ℕ, zero, suc, ◌+◌, ◌<◌, ◌≤◌, Bool, true, false, cond, refl, arith}
use Rattle.std.proofs.lemmas.Bool.{cases_lt, both_ways}
use Rattle.std.proofs.Common.{inl, inr}
use Rattle.cap_bounds.specs.Least.{least_from, least_up_to}

least_from-is : (n k e : ℕ) (p : ℕ → Bool) → k ≤ e → e ≤ k + n → ((j : ℕ) → k ≤ j → j < e → p j ≡ false) → (e < k + n → p e ≡ true)
    → least_from k n p ≡ e
least_from-is zero k e p low high none here = omega arith
least_from-is (suc n) k e p low high none here =
    elim (p k) as (λ b. p k ≡ b → cond b k (least_from (suc k) n p) ≡ e) [
      | true ↦ λ hit. elim (cases_lt k e) [
        | inl before ↦ absurd (both_ways (p k) (none k (omega arith) before) hit)
        | inr after ↦ omega arith
      ]
      | false ↦ λ miss. elim (cases_lt k e) [
        | inl before ↦ least_from-is n (suc k) e p (omega arith) (omega arith) (λ j from below. none j (omega arith) below)
            (λ below. here (omega arith))
        | inr after ↦ let same : e ≡ k =
            omega arith in absurd (both_ways (p k) miss (let hit : p k ≡ true = rw same at (here (omega arith)) in hit))
      ]
    ] refl

-- a number before which none passes, and which passes itself or is the bound
pub least_up_to-is : (bound e : ℕ) (p : ℕ → Bool) → e ≤ bound → ((j : ℕ) → j < e → p j ≡ false) → (e < bound → p e ≡ true)
    → least_up_to bound p ≡ e
unfolding least_up_to
least_up_to-is bound e p high none here =
    least_from-is bound 0 e p (omega arith) (omega arith) (λ j _ below. none j below) (λ below. here (omega arith))

least_from-low : (n k : ℕ) (p : ℕ → Bool) → k ≤ least_from k n p
least_from-low zero k p = omega arith
least_from-low (suc n) k p =
    elim (p k) as (λ b. k ≤ cond b k (least_from (suc k) n p)) [ true ↦ omega arith | false ↦ omega (arith, least_from-low n (suc k) p) ]

least_from-high : (n k : ℕ) (p : ℕ → Bool) → least_from k n p ≤ k + n
least_from-high zero k p = omega arith
least_from-high (suc n) k p =
    elim (p k) as (λ b. cond b k (least_from (suc k) n p) ≤ k + suc n)
    [ true ↦ omega arith | false ↦ omega (arith, least_from-high n (suc k) p) ]

least_from-none : (n k j : ℕ) (p : ℕ → Bool) → k ≤ j → j < least_from k n p → p j ≡ false
least_from-none zero k j p low below = absurd (omega arith)
least_from-none (suc n) k j p low below =
    elim (p k) as (λ b. p k ≡ b → j < cond b k (least_from (suc k) n p) → p j ≡ false) [
      | true ↦ λ _ below. absurd (omega arith)
      | false ↦ λ miss below. elim (cases_lt k j) [
        | inl after ↦ least_from-none n (suc k) j p (omega arith) below
        | inr same ↦ let e : j ≡ k = omega arith in rw e miss
      ]
    ] refl below

least_from-holds : (n k : ℕ) (p : ℕ → Bool) → least_from k n p < k + n → p (least_from k n p) ≡ true
least_from-holds zero k p below = absurd (omega arith)
least_from-holds (suc n) k p below =
    elim (p k) as (λ b. p k ≡ b → cond b k (least_from (suc k) n p) < k + suc n → p (cond b k (least_from (suc k) n p)) ≡ true) [
      | true ↦ λ hit _. hit
      | false ↦ λ _ below. least_from-holds n (suc k) p (omega arith)
    ] refl below

pub least_up_to-high : (bound : ℕ) (p : ℕ → Bool) → least_up_to bound p ≤ bound
unfolding least_up_to
least_up_to-high bound p = omega (arith, least_from-high bound 0 p)

pub least_up_to-none : (bound j : ℕ) (p : ℕ → Bool) → j < least_up_to bound p → p j ≡ false
unfolding least_up_to
least_up_to-none bound j p below = least_from-none bound 0 j p (omega arith) below

pub least_up_to-holds : (bound : ℕ) (p : ℕ → Bool) → least_up_to bound p < bound → p (least_up_to bound p) ≡ true
unfolding least_up_to
least_up_to-holds bound p below = least_from-holds bound 0 p (omega arith)
