-- What a look at a state says, where its reach is known.
use Rattle.std.proofs.Common.{◌≡◌, ℕ, ◌<◌, List, length, get_or, map, ap, sym, ◌∙◌, subst, Bool, true, false, refl, inl, inr, ◌⊎◌}
use Rattle.std.proofs.lemmas.Bool.{false≢true}
use Rattle.std.specs.List.{HoldsAt}
use Rattle.std.specs.Prelude.{◌&&◌, not, if◌then◌else◌, Option, None, IfSome, IfNone, Contains}
use Rattle.cap_bounds.specs.CapValue.{CapValue}
use Rattle.tagged_memory.specs.Memory.{Memory}
use Rattle.steps.specs.declared.event.Event.{Event}
use Rattle.steps.specs.Event.{after, outcome}
use Rattle.steps.specs.IsState.{IsState}
use Rattle.steps.specs.Outcome.{Plain}
use Rattle.steps.specs.State.{State}
use Rattle.reached.specs.Links.{values}
use Rattle.reached.specs.Order.{seen_members}
use Rattle.reached.specs.declared.member.Member.{Member}
use Rattle.reach.proofs.Reaches.{values_seen}
use Rattle.reach.specs.First.{HoldsOfNone}
use Rattle.reach.specs.Reach.{AreReachable, members_in}
use Rattle.policy.specs.Terms.{Terms}
use Rattle.policy.specs.declared.refused.Refused.{Refused}
use Rattle.policy.specs.Rule.{BreaksRule}
use Rattle.policy.specs.Watch.{Applies, Holds, HoldEach, IsFirstRefused, IsRefused, fetched_at, values_in}
use Rattle.policy.specs.Known.{Applied, AreKnown, AreCertified, IsCertified}
use Rattle.policy.proofs.Rights.{holds-after}
use Rattle.policy.proofs.Runs.{some-map, none-map}

module _ (h s : State) (same_state : h ≡ s) (rules : List Terms) (at : Option ℕ) (same_at : at ≡ fetched_at s) {X : Type 0}
    (value : X → CapValue) (members : List (Member X)) (are : AreReachable h (values value members)) where
  pub refused-in : seen_members value members ≡ members_in h → (o : Option Refused)
      → IfSome o (IsFirstRefused rules at (values value members)) → IfSome o (λ x. IsRefused rules x s)
  refused-in seen o =
      let same : values value members ≡ values_in s =
      sym (values_seen value members) ∙ ap (map (λ x. x.value)) (seen ∙ ap members_in same_state) in
      some-map (IsFirstRefused rules at (values value members)) (λ x. IsRefused rules x s) o (λ x first. record {
        reachable = subst (AreReachable s) same (subst (λ t. AreReachable t (values value members)) same_state are);
        first = subst (λ vs. IsFirstRefused rules (fetched_at s) vs x) same
            (subst (λ n. IsFirstRefused rules n (values value members) x) same_at first);
      })

  pub holds-in : (o : Option Refused)
      → IfNone o ((rule : Terms) → Contains rules rule → Applies rule at → HoldsOfNone (BreaksRule rule) (values value members))
      → IfNone o (HoldEach rules s)
  holds-in o =
      none-map _ _ o (λ none rule there about v reachable.
      none rule there (subst (Applies rule) (sym same_at) about) v
      ((subst (λ t. AreReachable t (values value members)) same_state are).complete v reachable))

and-false : (a : Bool) → (a && false) ≡ false
and-false true = refl
and-false false = refl

and-true : (a : Bool) → (a && true) ≡ a
and-true true = refl
and-true false = refl

-- ---- what is known after an event

known-if : (rules : List Terms) (s : State) (at : Option ℕ) (plain : Bool) (known : Option ℕ) → known ≡ (if plain then at else None)
    → (plain ≡ true → AreKnown rules at s) → AreKnown rules known s
known-if rules s at true known same hold = subst (λ o. AreKnown rules o s) (sym same) (hold refl)
known-if rules s at false known same hold = subst (λ o. AreKnown rules o s) (sym same) (λ rule there about. absurd about.1)

-- after a plain event the lasting rules that applied before it are known to hold
pub known-after : (rules : List Terms) (t next : State) (e : Event) (at : Option ℕ) (plain : Bool) (known : Option ℕ) → IsState t
    → next ≡ after e t → (plain ≡ true → outcome e t ≡ Plain) → known ≡ (if plain then at else None) → at ≡ fetched_at t
    → HoldEach rules t → AreKnown rules known next
known-after rules t next e at plain known is met is_plain same same_at all =
    known-if rules next at plain known same (λ yes rule there about. subst (Holds rule) (sym met)
    (holds-after rule t e is (is_plain yes) about.0 (all rule there (subst (Applies rule) same_at about.1))))

-- the same where other rules may be in force, of which nothing is known then
pub known-then : (rules others : List Terms) (t next : State) (e : Event) (at : Option ℕ) (plain changed : Bool) (known : Option ℕ)
    → IsState t → next ≡ after e t → (plain ≡ true → outcome e t ≡ Plain) → known ≡ (if plain && not changed then at else None)
    → at ≡ fetched_at t → HoldEach rules t → (changed ≡ false → others ≡ rules) → AreKnown others known next
known-then rules others t next e at plain true known is met is_plain same same_at all unchanged =
    known-if others next at false known (same ∙ ap (λ b. if b then at else None) (and-false plain)) (λ yes. absurd (false≢true yes))
known-then rules others t next e at plain false known is met is_plain same same_at all unchanged =
    subst (λ rs. AreKnown rs known next) (sym (unchanged refl))
    (known-after rules t next e at plain known is met is_plain (same ∙ ap (λ b. if b then at else None) (and-true plain)) same_at all)

-- certificates of rules, where other rules may be in force
pub certified-then : (rules others : List Terms) (marks left : List Bool) (m : Memory) (changed : Bool) → AreCertified rules marks m
    → (changed ≡ false → others ≡ rules)
    → ((k : ℕ) → get_or left k false ≡ true → (changed ≡ false) × (get_or marks k false ≡ true)) → AreCertified others left m
certified-then rules others marks left m changed are unchanged kept = λ k below marked.
    let both = kept k marked in
    let same = unchanged both.0 in
    subst (λ rs. HoldsAt (λ rule. IsCertified rule m) rs k) (sym same) (are k (subst (λ rs. k < length rs) same below) both.1)

-- ---- what is certain

pub holds-certain : (rules : List Terms) (s : State) (at known : Option ℕ) → at ≡ fetched_at s → AreKnown rules known s
    → ((rule : Terms) → Contains rules rule → Applies rule at → Applied known rule ⊎ Holds rule s) → HoldEach rules s
holds-certain rules s at known same knows certain = λ rule there about.
    elim (certain rule there (subst (Applies rule) (sym same) about)) [ inl was ↦ knows rule there was | inr holds ↦ holds ]
