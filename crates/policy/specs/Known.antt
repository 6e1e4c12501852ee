-- What a watcher knows between two looks: rules that hold, and certificates of rules, by which one look at the registers shows that they
-- hold.
use Rattle.std.specs.Prelude.{◌≡◌, ℕ, ◌<◌, Bool, true, false, List, length, Option, IsNone, Contains, slice_index_or, ◌⊎◌, ⊤}
use Rattle.std.specs.List.{HoldsAt}
use Rattle.cap_bounds.specs.CapValue.{CapValue, is_tagged}
use Rattle.tagged_memory.specs.Memory.{Memory}
use Rattle.steps.specs.declared.effect.Effect.{Effect}
use Rattle.steps.specs.declared.effect.Effect.TheVariants.{StoreCapability}
use Rattle.steps.specs.IsState.{IsState}
use Rattle.steps.specs.State.{State}
use Rattle.authority.specs.Reachable.{IsRoot, IsSpecial, IsHeldAt}
use Rattle.reach.specs.Ranges.{IsInOne}
use Rattle.policy.specs.declared.rule.Rule.{Rule}
use Rattle.policy.specs.declared.guard.Standing.{Standing}
use Rattle.policy.specs.declared.guard.Standing.TheVariants.{Open, Certain, Guarded}
use Rattle.policy.specs.declared.in_force.InForce.{InForce}
use Rattle.policy.specs.declared.watcher.Watcher.{Watcher}
use Rattle.policy.specs.Terms.{Terms, terms_of}
use Rattle.policy.specs.Cover.{ShareNone}
use Rattle.policy.specs.Rule.{BreaksRule}
use Rattle.policy.specs.Watch.{Applies, Holds, HoldEach, fetched_at}

-- ---- rules that hold

-- It goes on holding over plain events, once it holds. (Where code may seal, it may come to hold a type that it didn't hold.)
abbrev pub IsLasting : Terms → Type 0
IsLasting rule = (rule.seal ≡ false) ⊎ IsNone rule.types

-- the rule is lasting, and applies to what was fetched at an address that is known
abbrev pub Applied : Option ℕ → Terms → Type 0
Applied known rule = IsLasting rule × Applies rule known

-- each rule that was so holds
abbrev pub AreKnown : List Terms → Option ℕ → State → Type 0
AreKnown rules known s = (rule : Terms) → Contains rules rule → Applied known rule → Holds rule s

-- ---- certificates

-- A certificate of a rule: a tagged granule that begins in its ranges for loads holds nothing that breaks it.
abbrev pub IsCertified : Terms → Memory → Type 0
IsCertified rule m = (granule : ℕ) (v : CapValue) → IsInOne rule.load granule → IsHeldAt m granule v → BreaksRule rule v → ⊥

-- the roots keep the rule
abbrev pub RootsKeep : Terms → State → Type 0
RootsKeep rule s = (v : CapValue) → is_tagged v ≡ true → IsRoot s v → BreaksRule rule v → ⊥

-- so do the special registers, if the rule lets code use them
abbrev pub SpecialsKeep : Terms → State → Type 0
SpecialsKeep rule s = rule.system ≡ true → (v : CapValue) → is_tagged v ≡ true → IsSpecial s v → BreaksRule rule v → ⊥

-- the rules that are marked have certificates
abbrev pub AreCertified : List Terms → List Bool → Memory → Type 0
AreCertified rules certified m =
    (k : ℕ) → k < length rules → slice_index_or certified k false ≡ true → HoldsAt (λ rule. IsCertified rule m) rules k

-- an effect puts a capability into a granule
abbrev pub Puts : Effect CapValue → ℕ → CapValue → Type 0
Puts (StoreCapability w) granule v = (granule ≡ w.address) × (v ≡ w.value) × (is_tagged w.value ≡ true)
Puts _ granule v = ⊥

-- it puts nothing that breaks the rule where the rule lets code load
abbrev pub KeepsCertificate : Effect CapValue → Terms → Type 0
KeepsCertificate e rule = (granule : ℕ) (v : CapValue) → Puts e granule v → IsInOne rule.load granule → BreaksRule rule v → ⊥

-- the rules that are still marked were, and the effect keeps their certificates
abbrev pub KeepsThose : List Terms → List Bool → List Bool → Effect CapValue → Type 0
KeepsThose rules certified now e =
    (k : ℕ) → k < length rules → slice_index_or now k false ≡ true
    → (slice_index_or certified k false ≡ true) × HoldsAt (KeepsCertificate e) rules k

-- ---- many steps under one rule, the guard

-- the rule is lasting and applies, as the guard does; or is about no code that the guard lets be fetched
abbrev pub StaysAway : Option ℕ → Terms → Terms → Type 0
StaysAway at guard rule = Applied at rule ⊎ ShareNone rule.code guard.execute

-- it is so; or lets code load nothing that the guard lets be stored to
abbrev pub OutOfReach : Option ℕ → Terms → Terms → Type 0
OutOfReach at guard rule = Applied at rule ⊎ ShareNone rule.load guard.store

-- a guard at an address: a lasting rule that applies there, under which code comes to no other rule's
pub record IsGuarded (rules : List Terms) (at : Option ℕ) : Type 0 where
  pub guard : Terms
  pub there : Contains rules guard
  pub applied : Applied at guard
  pub away : (rule : Terms) → Contains rules rule → StaysAway at guard rule

-- a lasting rule that applies at an address, out of whose reach the rule at a place is
pub record IsSpared (rules : List Terms) (at : Option ℕ) (k : ℕ) : Type 0 where
  pub guard : Terms
  pub there : Contains rules guard
  pub applied : Applied at guard
  pub out : HoldsAt (OutOfReach at guard) rules k

-- the rules that are still marked were, and are out of such a rule's reach
abbrev pub Spares : List Terms → Option ℕ → List Bool → List Bool → Type 0
Spares rules at certified now =
    (k : ℕ) → k < length rules → slice_index_or now k false ≡ true → (slice_index_or certified k false ≡ true) × IsSpared rules at k

-- a rule guards the code
abbrev pub is_guarded : Standing → Bool
is_guarded Guarded = true
is_guarded other = false

-- what a standing says of a state
abbrev pub Stands : Standing → List Terms → Option ℕ → State → Type 0
Stands Open rules known s = ⊤
Stands Certain rules known s = HoldEach rules s
Stands Guarded rules known s = HoldEach rules s × (known ≡ fetched_at s) × IsGuarded rules known

-- ---- all of it

-- rules in force: as they are said, and as they are now
abbrev pub said_by : InForce → List Terms
said_by force = terms_of force.said.now

abbrev pub held_by : InForce → List Rule
held_by force = force.rules.items

abbrev pub forced_by : InForce → List Terms
forced_by force = terms_of (held_by force)

abbrev pub IsPaired : InForce → Type 0
IsPaired force = length force.said.now ≡ length (held_by force)

-- the rules that a watcher watches by: as they are said, and the terms in force
abbrev pub said_to : Watcher → List Terms
said_to w = said_by w.force

abbrev pub rules_of : Watcher → List Terms
rules_of w = forced_by w.force

-- a rule in force for each that is said, and a mark for each
abbrev pub IsWhole : Watcher → Type 0
IsWhole w = IsPaired w.force × (length w.certified.items ≡ length (held_by w.force))

-- what a watcher remembers is true of the state
pub record Remembers (w : Watcher) (s : State) : Type 0 where
  pub known : AreKnown (rules_of w) w.known s
  pub certified : AreCertified (rules_of w) w.certified.items s.memory

-- and so is what its last look found
pub record Knows (w : Watcher) (s : State) : Type 0 where
  pub state : IsState s
  pub remembers : Remembers w s
  pub stands : Stands w.standing (rules_of w) w.known s
