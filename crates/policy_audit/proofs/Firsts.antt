-- A search for the first member whose value passes.
use Rattle.std.proofs.Common.{◌≡◌, ℕ, ◌+◌, ◌<◌, ◌≤◌, List, drop, length, arith, ap, sym, ◌∙◌}
use Rattle.std.proofs.lemmas.List.{drop_all, length-map}
use Rattle.std.specs.Prelude.{slice_index_or, Some, None, Bool, true, false, if◌then◌else◌}
use Rattle.cap_bounds.specs.CapValue.{CapValue}
use Rattle.reached.specs.declared.member.Member.{Member}
use Rattle.reached.specs.Links.{values}
use Rattle.policy.proofs.Next.{drop_next}
use Rattle.policy_audit.specs.Found.{first_from}

module _ {X : Type 0} (value : X → CapValue) (passes : CapValue → Bool) where
  next : (ms : List (Member X)) (k : ℕ) (d : Member X) → k < length ms
      → first_from passes k (drop k (values value ms))
      ≡ (if passes (value (slice_index_or ms k d).cap) then Some k else first_from passes (k + 1) (drop (k + 1) (values value ms)))
  next ms k d inside = ap (first_from passes k) (drop_next value ms k d inside)

  pub later : (ms : List (Member X)) (k : ℕ) (d : Member X) → k < length ms → passes (value (slice_index_or ms k d).cap) ≡ false
      → first_from passes 0 (values value ms) ≡ first_from passes k (drop k (values value ms))
      → first_from passes 0 (values value ms) ≡ first_from passes (k + 1) (drop (k + 1) (values value ms))
  later ms k d inside answer before =
      before ∙ next ms k d inside
      ∙ ap (λ b. if b then Some k else first_from passes (k + 1) (drop (k + 1) (values value ms))) answer

  pub found : (ms : List (Member X)) (k : ℕ) (d : Member X) → k < length ms → passes (value (slice_index_or ms k d).cap) ≡ true
      → first_from passes 0 (values value ms) ≡ first_from passes k (drop k (values value ms))
      → Some k ≡ first_from passes 0 (values value ms)
  found ms k d inside answer before =
      sym (before ∙ next ms k d inside
      ∙ ap (λ b. if b then Some k else first_from passes (k + 1) (drop (k + 1) (values value ms))) answer)

  pub none : (ms : List (Member X)) (k : ℕ) → length ms ≤ k
      → first_from passes 0 (values value ms) ≡ first_from passes k (drop k (values value ms))
      → None ≡ first_from passes 0 (values value ms)
  none ms k end before =
      let past : length (values value ms) ≤ k = omega (arith, length-map ms (λ (m : Member X). value m.cap)) in
      sym (before ∙ ap (first_from passes k) (drop_all k (values value ms) past))
