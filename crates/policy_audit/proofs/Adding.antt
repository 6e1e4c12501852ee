-- What is added part by part.
use Rattle.std.proofs.Common.{◌≡◌, ℕ, ◌+◌, ◌<◌, ◌≤◌, List, [], ◌∷◌, ◌++◌, Option, Result, drop, length, get_or, refl, ap, sym, ◌∙◌, inl}
use Rattle.std.proofs.Common.{inr}
use Rattle.std.proofs.lemmas.Bool.{and_parts, cases_Bool}
use Rattle.std.proofs.lemmas.List.{append_assoc, append-nil, drop_more, drop_all}
use Rattle.std.specs.List.{flat_map}
use Rattle.std.specs.Prelude.{OnOk, Ok, Err, true, false}
use Rattle.cap_bounds.specs.CapValue.{CapValue}
use Rattle.policy.specs.Terms.{Terms}
use Rattle.policy.specs.declared.rule.Ban.{Ban}
use Rattle.policy_audit.specs.declared.finding.Finding.{Finding}
use Rattle.policy_audit.specs.Found.{are_found, found_from, found_of, found_part, is_found, parts}
use Rattle.policy.specs.Tests.{applies}

-- ---- lists

-- one part more of what is left
pub more : {X : Type 0} (old new part rest left whole : List X) → new ≡ old ++ part → rest ≡ part ++ left → old ++ rest ≡ whole
    → new ++ left ≡ whole
more old new part rest left whole added is so_far =
    ap (λ t. t ++ left) added ∙ append_assoc old part left ∙ ap (λ t. old ++ t) (sym is) ∙ so_far

-- none is left
pub end : {X : Type 0} (all rest whole : List X) → rest ≡ [] → all ++ rest ≡ whole → all ≡ whole
end all rest whole none so_far = sym (append-nil all) ∙ ap (λ t. all ++ t) (sym none) ∙ so_far

-- nothing is added
pub nothing : {X : Type 0} (old part : List X) → part ≡ [] → old ≡ old ++ part
nothing old part none = sym (append-nil old) ∙ ap (λ t. old ++ t) (sym none)

pub on_ok : {X E : Type 0} (r : Result X E) (A : Type 0) → A → OnOk r A
on_ok (Ok x) A holds = holds
on_ok (Err e) A holds = tt

-- the elements' lists that are left
pub map_next : {X Y : Type 0} (f : X → List Y) (xs : List X) (k : ℕ) (d : X) → k < length xs
    → flat_map f (drop k xs) ≡ f (get_or xs k d) ++ flat_map f (drop (k + 1) xs)
map_next f xs k d inside = ap (flat_map f) (drop_more xs k d inside)

pub map_end : {X Y : Type 0} (f : X → List Y) (xs : List X) (k : ℕ) → length xs ≤ k → flat_map f (drop k xs) ≡ []
map_end f xs k past = ap (flat_map f) (drop_all k xs past)

-- ---- rules

module _ (seen : List Finding) (vs : List CapValue) (at : Option ℕ) where
  pub rules_next : (rules : List Terms) (k : ℕ) (d : Terms) → k < length rules
      → found_from seen vs at k (drop k rules)
      ≡ found_of seen vs at k (get_or rules k d) ++ found_from seen vs at (k + 1) (drop (k + 1) rules)
  rules_next rules k d inside = ap (found_from seen vs at k) (drop_more rules k d inside)

  pub rules_end : (rules : List Terms) (k : ℕ) → length rules ≤ k → found_from seen vs at k (drop k rules) ≡ []
  rules_end rules k past = ap (found_from seen vs at k) (drop_all k rules past)

-- ---- where nothing is found

no_parts : (seen : List Finding) (vs : List CapValue) (place : ℕ) (rule : Terms) (bans : List Ban) → are_found seen place bans ≡ true
    → flat_map (found_part seen vs place rule) bans ≡ []
unfolding found_part
no_parts seen vs place rule [] all = refl
no_parts seen vs place rule (ban ∷ bans) all =
    let both = and_parts (is_found seen place ban) (are_found seen place bans) all in
    rw both.0 (no_parts seen vs place rule bans both.1)

module _ (seen : List Finding) (at : Option ℕ) (place : ℕ) (rule : Terms) where
  pub not_applied : applies rule at ≡ false → (vs : List CapValue) → found_of seen vs at place rule ≡ []
  unfolding found_of
  not_applied other vs = rw other refl

  pub all_found : are_found seen place parts ≡ true → (vs : List CapValue) → found_of seen vs at place rule ≡ []
  unfolding found_of
  all_found all vs = elim (cases_Bool (applies rule at)) [
    | inl about ↦ rw about (no_parts seen vs place rule parts all)
    | inr other ↦ rw other refl
  ]
