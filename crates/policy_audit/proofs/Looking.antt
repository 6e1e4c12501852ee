-- What a look at a state finds, where its reach is known.
use Rattle.std.proofs.Common.{◌≡◌, ℕ, ◌+◌, ◌<◌, List, [], ◌∷◌, ◌++◌, Bool, true, false, map, length, refl, sym, ap, ◌∙◌, subst, arith}
use Rattle.std.proofs.lemmas.List.{length-map}
use Rattle.std.proofs.lemmas.List.Elements.{All-nil, All-cons, All-append}
use Rattle.std.specs.List.{flat_map}
use Rattle.std.specs.Prelude.{All, Option, Some, None, if◌then◌else◌}
use Rattle.cap_bounds.specs.CapValue.{CapValue}
use Rattle.steps.specs.State.{State}
use Rattle.reached.specs.Links.{values}
use Rattle.reached.specs.Order.{seen_members}
use Rattle.reached.specs.declared.member.Member.{Member}
use Rattle.reach.proofs.Reaches.{values_seen}
use Rattle.reach.specs.Reach.{members_in}
use Rattle.policy.specs.Terms.{Terms}
use Rattle.policy.specs.declared.rule.Ban.{Ban}
use Rattle.policy.specs.Watch.{fetched_at, values_in}
use Rattle.policy_audit.specs.declared.finding.Finding.{Finding}
use Rattle.policy_audit.specs.Found.{finding_of, first_from, found_at, found_from, found_of, found_part, is_found, parts}
use Rattle.policy.specs.Tests.{applies, breaks}

-- what is found in a state
module _ {X : Type 0} (value : X → CapValue) (members : List (Member X)) (s h : State) (same_state : h ≡ s)
    (are : seen_members value members ≡ members_in h) where
  pub values_are : values value members ≡ values_in s
  values_are = sym (values_seen value members) ∙ ap (map (λ x. x.value)) (are ∙ ap members_in same_state)

  pub found_in_reach : (rules : List Terms) (seen : List Finding) (at : Option ℕ) → at ≡ fetched_at s
      → found_from seen (values value members) at 0 rules ≡ found_at rules seen s
  found_in_reach rules seen at is =
      ap (λ vs. found_from seen vs at 0 rules) values_are ∙ ap (λ a. found_from seen (values_in s) a 0 rules) is

-- what is added to nothing
pub found_here : {X : Type 0} (value : X → CapValue) (rules : List Terms) (seen read : List Finding) (at : Option ℕ)
    (empty found : List Finding) (members ms : List (Member X)) → read ≡ seen → empty ≡ [] → ms ≡ members
    → found ≡ empty ++ found_from read (values value ms) at 0 rules → found ≡ found_from seen (values value members) at 0 rules
found_here value rules seen read at empty found members ms same none are added =
    added ∙ ap (λ e. e ++ found_from read (values value ms) at 0 rules) none
    ∙ ap (λ r. found_from r (values value ms) at 0 rules) same ∙ ap (λ m. found_from seen (values value m) at 0 rules) are

-- ---- each finding names a member

abbrev IsInside : ℕ → Finding → Type 0
IsInside many finding = finding.member < many

first-inside : (passes : CapValue → Bool) (n : ℕ) (vs : List CapValue) (k : ℕ) → first_from passes n vs ≡ Some k → k < n + length vs
first-inside passes n [] k is = absurd cc
first-inside passes n (v ∷ vs) k is = go (passes v) is (first-inside passes (n + 1) vs k)
  where
    go : (b : Bool) → (if b then Some n else first_from passes (n + 1) vs) ≡ Some k
        → (first_from passes (n + 1) vs ≡ Some k → k < n + 1 + length vs) → k < n + length (v ∷ vs)
    go true here later = let same : n ≡ k = cc in omega (arith, same)
    go false there later = let below = later there in omega (arith, below)

finding-inside : (place : ℕ) (ban : Ban) (passes : CapValue → Bool) (vs : List CapValue) (o : Option ℕ) → first_from passes 0 vs ≡ o
    → All (IsInside (length vs)) (finding_of place ban o)
finding-inside place ban passes vs None is = All-nil (IsInside (length vs))
finding-inside place ban passes vs (Some k) is =
    let below : k < 0 + length vs = first-inside passes 0 vs k is in
    All-cons (IsInside (length vs)) (record { rule = place; ban = ban; member = k }) [] (omega (arith, below))
    (All-nil (IsInside (length vs)))

module _ (seen : List Finding) (vs : List CapValue) where
  part-inside : (place : ℕ) (rule : Terms) (ban : Ban) → All (IsInside (length vs)) (found_part seen vs place rule ban)
  unfolding found_part
  part-inside place rule ban = go (is_found seen place ban)
    where
      go : (b : Bool) → All (IsInside (length vs)) (if b then [] else finding_of place ban (first_from (breaks rule ban) 0 vs))
      go true = All-nil (IsInside (length vs))
      go false = finding-inside place ban (breaks rule ban) vs (first_from (breaks rule ban) 0 vs) refl

  parts-inside : (place : ℕ) (rule : Terms) (bans : List Ban) → All (IsInside (length vs)) (flat_map (found_part seen vs place rule) bans)
  parts-inside place rule [] = All-nil (IsInside (length vs))
  parts-inside place rule (ban ∷ bans) =
      All-append (IsInside (length vs)) (found_part seen vs place rule ban) (flat_map (found_part seen vs place rule) bans)
      (part-inside place rule ban) (parts-inside place rule bans)

  rule-inside : (at : Option ℕ) (place : ℕ) (rule : Terms) → All (IsInside (length vs)) (found_of seen vs at place rule)
  unfolding found_of
  rule-inside at place rule = go (applies rule at)
    where
      go : (b : Bool) → All (IsInside (length vs)) (if b then flat_map (found_part seen vs place rule) parts else [])
      go true = parts-inside place rule parts
      go false = All-nil (IsInside (length vs))

  all-inside : (at : Option ℕ) (place : ℕ) (rules : List Terms) → All (IsInside (length vs)) (found_from seen vs at place rules)
  all-inside at place [] = All-nil (IsInside (length vs))
  all-inside at place (rule ∷ rules) =
      All-append (IsInside (length vs)) (found_of seen vs at place rule) (found_from seen vs at (place + 1) rules)
      (rule-inside at place rule) (all-inside at (place + 1) rules)

pub found-inside : {X : Type 0} (value : X → CapValue) (members : List (Member X)) (seen : List Finding) (at : Option ℕ)
    (rules : List Terms) (found : List Finding) → found ≡ found_from seen (values value members) at 0 rules
    → All (λ finding. finding.member < length members) found
found-inside value members seen at rules found is =
    subst (λ n. All (IsInside n) found) (length-map members (λ (m : Member _). value m.cap))
    (subst (All (IsInside (length (values value members)))) (sym is) (all-inside seen (values value members) at 0 rules))
