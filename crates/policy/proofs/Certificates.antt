-- A rule holds by its certificate, and what keeps certificates.
use Rattle.std.proofs.Common.{◌≡◌, ℕ, ◌+◌, ◌<◌, Bool, true, false, Option, None, Some, List, length, set, get_or, sym, ap, ◌∙◌}
use Rattle.std.proofs.Common.{subst, arith, inl, inr, ◌⊎◌}
use Rattle.std.proofs.lemmas.Bool.{cases_eq, cases_lt, cases_Bool, false≢true}
use Rattle.std.proofs.lemmas.List.{get_or-set_other, get_or-set_same, get_or_default, get_or_past}
use Rattle.std.specs.List.{HoldsAt}
use Rattle.byteorder.specs.Endian.{little_bytes}
use Rattle.byteorder.specs.Numbers.{length-bytes_low_first}
use Rattle.base.specs.Size.{bytes_of}
use Rattle.cap_bounds.specs.CapValue.{CapValue, IsSound, is_tagged, value_of, word_of}
use Rattle.cap_bounds.specs.RecordLaws.{value_of-word_of}
use Rattle.cap_bounds.specs.SoundLaws.{word_of-below}
use Rattle.tagged_memory.specs.AccessLaws.{in_ram-place_fault, aligned-place_fault}
use Rattle.tagged_memory.specs.Memory.{Memory, IsMemory, is_in_ram, has_tag, word_at, place_fault, data_written, capability_written}
use Rattle.tagged_memory.specs.MemoryLaws.{in_ram, word_at-data_written, tagged-before_data_written, word_at-capability_written_here}
use Rattle.tagged_memory.specs.MemoryLaws.{word_at-capability_written_other, has_tag-capability_written_here}
use Rattle.tagged_memory.specs.MemoryLaws.{has_tag-capability_written_other}
use Rattle.steps.specs.declared.effect.Effect.{Effect}
use Rattle.steps.specs.declared.effect.Effect.TheVariants as effect
use Rattle.steps.specs.AppliedLaws.{IsSoundEffect}
use Rattle.steps.specs.Effect.{applied}
use Rattle.steps.specs.EventLaws.{step_effect-sound}
use Rattle.steps.specs.IsState.{IsState}
use Rattle.steps.specs.State.{State}
use Rattle.steps.specs.Step.{step_effect, stepped_unless, stepped}
use Rattle.registers.specs.Registers.{null, register}
use Rattle.authority.specs.Reachable.{IsRoot, in_register, in_pcc, in_ddc, IsHeldAt, IsReachable, from_root, from_special, from_granule}
use Rattle.reach.specs.declared.range.Range.{Range}
use Rattle.reach.specs.Ranges.{IsIn}
use Rattle.policy.specs.Terms.{Terms}
use Rattle.policy.specs.declared.rule.Ban.TheVariants as ban
use Rattle.policy.specs.Rule.{BreaksRule}
use Rattle.policy.specs.Watch.{Holds}
use Rattle.policy.specs.Known.{IsCertified, RootsKeep, SpecialsKeep, AreCertified, Puts, KeepsCertificate, KeepsThose}
use Rattle.policy.proofs.Covers.{in_or_out}

-- ---- a rule holds

module _ (rule : Terms) (s : State) (memory : IsMemory s.memory) (certified : IsCertified rule s.memory) (roots : RootsKeep rule s)
    (specials : SpecialsKeep rule s) where
  keeps-reachable : (v : CapValue) → IsReachable s v → BreaksRule rule v → ⊥
  keeps-reachable v (from_root tagged root) = roots v tagged root
  keeps-reachable v (from_special {c = c} before opens tagged special) = elim (cases_Bool rule.system) [
    | inl may ↦ specials may v tagged special
    | inr banned ↦ λ _. keeps-reachable c before (record { ban = ban.System; breaks = (banned, opens) })
  ]
  keeps-reachable v (from_granule {c = c} granule before opens here) = elim (in_or_out rule.load granule) [
    | inl one ↦ certified granule v one here
    | inr outside ↦ λ _.
        let place = in_ram s.memory granule 16 (memory.granules_in_ram granule here.tagged) in
        let top = opens.top in
        keeps-reachable c before (record {
          ban = ban.Load;
          breaks = inl (record {
            byte = granule;
            in_ram = place.0;
            outside = outside;
            lets = record { unsealed = opens.unsealed; permitted = opens.loads };
            base = opens.base;
            top = omega arith;
          });
        })
  ]

  pub holds-certified : Holds rule s
  holds-certified = keeps-reachable

-- what the tagged granules hold that begin in a range keeps the rule
abbrev pub RangeKeeps : Terms → Memory → Range → Type 0
RangeKeeps rule m range = (granule : ℕ) (v : CapValue) → IsIn range granule → IsHeldAt m granule v → BreaksRule rule v → ⊥

-- a rule has its certificate if this is so of each range
pub certified-by : (rule : Terms) (m : Memory)
    → ((k : ℕ) → k < length rule.load → HoldsAt (RangeKeeps rule m) rule.load k) → IsCertified rule m
certified-by rule m keep = λ granule v one here.
    let k : ℕ = one.is_one.0 in
    let few : k < length rule.load = one.is_one.1 in
    subst (RangeKeeps rule m) one.is_one.2 (keep k few one.range) granule v one.inside here

-- ---- registers

-- the value keeps the rule, if it has a tag
abbrev pub KeepsTagged : Terms → CapValue → Type 0
KeepsTagged rule v = is_tagged v ≡ true → BreaksRule rule v → ⊥

module _ (rule : Terms) (s : State) (is : IsState s) (pcc : KeepsTagged rule s.scrs.pcc) (ddc : KeepsTagged rule s.scrs.ddc)
    (registers : (n : ℕ) → n < 32 → KeepsTagged rule (register s.registers n)) where
  pub roots-keep : (v : CapValue) → is_tagged v ≡ true → IsRoot s v → BreaksRule rule v → ⊥
  roots-keep v tagged (in_register n same) = elim (cases_lt n 32) [
    | inl below ↦ subst (KeepsTagged rule) (sym same) (registers n below) tagged
    | inr past ↦
        let count = is.registers.count in
        absurd (false≢true (sym (ap is_tagged (same ∙ get_or_past s.registers n null (omega arith))) ∙ tagged))
  ]
  roots-keep v tagged (in_pcc same) = subst (KeepsTagged rule) (sym same) pcc tagged
  roots-keep v tagged (in_ddc same) = subst (KeepsTagged rule) (sym same) ddc tagged

-- ---- what a step puts into granules

held-data : (m : Memory) (address : ℕ) (new : List ℕ) → IsMemory m → is_in_ram m address (length new) ≡ true → (granule : ℕ)
    (v : CapValue) → IsHeldAt (data_written m address new) granule v → IsHeldAt m granule v
held-data m address new memory inside granule v here = record {
  tagged = tagged-before_data_written m address new granule here.tagged;
  value = here.value ∙ ap (λ w. value_of w true) (word_at-data_written m address new memory inside granule here.tagged);
}

-- memory with a value stored
abbrev with_value : Memory → ℕ → CapValue → Memory
with_value m address v = capability_written m address (word_of v) (is_tagged v)

stored-here : (m : Memory) (address : ℕ) (v w : CapValue) → is_in_ram m address 16 ≡ true → IsSound v
    → IsHeldAt (with_value m address v) address w → (w ≡ v) × (is_tagged v ≡ true)
stored-here m address v w inside sound here =
    let tag : is_tagged v ≡ true =
    sym (has_tag-capability_written_here m address (word_of v) (is_tagged v)) ∙ here.tagged in
    let word : word_at (with_value m address v) address ≡ word_of v =
    word_at-capability_written_here m address (word_of v) (is_tagged v) inside (word_of-below v sound) in
    (here.value ∙ ap (λ n. value_of n true) word ∙ ap (value_of (word_of v)) (sym tag) ∙ value_of-word_of v sound, tag)

stored-elsewhere : (m : Memory) (address : ℕ) (v : CapValue) → IsMemory m → place_fault m address 16 ≡ None → (granule : ℕ)
    → (granule ≡ address → ⊥) → (w : CapValue) → IsHeldAt (with_value m address v) granule w → IsHeldAt m granule w
stored-elsewhere m address v memory none granule apart w here =
    let before : has_tag m granule ≡ true =
    sym (has_tag-capability_written_other m address (word_of v) (is_tagged v) granule apart) ∙ here.tagged in
    record {
      tagged = before;
      value = here.value
          ∙ ap (λ n. value_of n true)
          (word_at-capability_written_other m address (word_of v) (is_tagged v) memory (aligned-place_fault m address 16 none)
          (in_ram-place_fault m address 16 none) granule before apart);
    }

module _ (s : State) (memory : IsMemory s.memory) (granule : ℕ) (v : CapValue) where
  held-applied : (e : Effect CapValue) → IsSoundEffect e s → IsHeldAt (applied e s).memory granule v
      → IsHeldAt s.memory granule v ⊎ Puts e granule v
  unfolding applied
  held-applied (effect.Store w) sound here =
      inl (held-data s.memory w.address (little_bytes (bytes_of w.size) w.number) memory
      (rw (length-bytes_low_first 0 (bytes_of w.size) w.number) sound) granule v here)
  held-applied (effect.StoreCapability w) sound here = elim (cases_eq granule w.address) [
    | inl same ↦
        let both = stored-here s.memory w.address w.value v (in_ram-place_fault s.memory w.address 16 sound.0) sound.1
        (subst (λ g. IsHeldAt (with_value s.memory w.address w.value) g v) same here) in
        inr (same, both.0, both.1)
    | inr apart ↦ inl (stored-elsewhere s.memory w.address w.value memory sound.0 granule apart v here)
  ]
  held-applied e sound here = inl here

  held-stepped : (halted : Option ℕ) → IsState s → IsHeldAt (stepped_unless halted s).memory granule v
      → IsHeldAt s.memory granule v ⊎ Puts (step_effect s) granule v
  held-stepped None is here = held-applied (step_effect s) (step_effect-sound s is) here
  held-stepped (Some number) is here = inl here

-- what a tagged granule holds after a step it held before, or the step put it there
pub held-step : (s : State) → IsState s → (granule : ℕ) (v : CapValue) → IsHeldAt (stepped s).memory granule v
    → IsHeldAt s.memory granule v ⊎ Puts (step_effect s) granule v
unfolding stepped
held-step s is granule v here = held-stepped s is.memory granule v s.devices.halted is here

-- ---- certificates

pub certified-step : (rule : Terms) (s : State) → IsState s → KeepsCertificate (step_effect s) rule → IsCertified rule s.memory
    → IsCertified rule (stepped s).memory
certified-step rule s is keeps certified = λ granule v one here. elim (held-step s is granule v here) [
  | inl before ↦ certified granule v one before
  | inr puts ↦ keeps granule v puts one
]

pub certified-those : (rules : List Terms) (before now : List Bool) (s : State) → IsState s → KeepsThose rules before now (step_effect s)
    → AreCertified rules before s.memory → AreCertified rules now (stepped s).memory
certified-those rules before now s is keeps certified = λ k below marked d.
    let both = keeps k below marked in
    certified-step (get_or rules k d) s is (both.1 d) (certified k below both.0 d)

-- ---- marks

module _ {X : Type 0} (P : X → Type 0) (xs : List X) (i : ℕ) (x : X) (below : i < length xs) (read : x ≡ get_or xs i x) where
  at : P x → HoldsAt P xs i
  at holds = λ d. subst P (read ∙ get_or_default xs i x d below) holds

  module _ (marks : List Bool) (mark : Bool) (inside : i < length marks) where
    -- one mark is set anew
    pub marked-more : (mark ≡ true → P x) → ((k : ℕ) → k < length xs → get_or marks k false ≡ true → HoldsAt P xs k) → (k : ℕ)
        → k < length xs → get_or (set marks i mark) k false ≡ true → HoldsAt P xs k
    marked-more new before k few marked = elim (cases_eq k i) [
      | inl same ↦
          let here : mark ≡ true = sym (get_or-set_same marks i mark false inside) ∙ sym (ap (λ n. get_or (set marks i mark) n false) same)
          ∙ marked in
          subst (HoldsAt P xs) (sym same) (at (new here))
      | inr other ↦ before k few (sym (get_or-set_other marks i k mark false other) ∙ marked)
    ]

    -- the marks that are left so far
    pub left-more : (old : List Bool) → (mark ≡ true → (get_or marks i false ≡ true) × P x)
        → ((k : ℕ) → get_or marks k false ≡ true → get_or old k false ≡ true)
        → (k : ℕ) → get_or (set marks i mark) k false ≡ true → get_or old k false ≡ true
    left-more old new before k marked = elim (cases_eq k i) [
      | inl same ↦
          let here : mark ≡ true = sym (get_or-set_same marks i mark false inside) ∙ sym (ap (λ n. get_or (set marks i mark) n false) same)
          ∙ marked in
          before k (ap (λ n. get_or marks n false) same ∙ (new here).0)
      | inr other ↦ before k (sym (get_or-set_other marks i k mark false other) ∙ marked)
    ]

    pub looked-more : (mark ≡ true → P x) → ((k : ℕ) → k < i → get_or marks k false ≡ true → HoldsAt P xs k) → (k : ℕ)
        → k < i + 1 → get_or (set marks i mark) k false ≡ true → HoldsAt P xs k
    looked-more new before k few marked = elim (cases_eq k i) [
      | inl same ↦
          let here : mark ≡ true = sym (get_or-set_same marks i mark false inside) ∙ sym (ap (λ n. get_or (set marks i mark) n false) same)
          ∙ marked in
          subst (HoldsAt P xs) (sym same) (at (new here))
      | inr other ↦ before k (omega (arith, other)) (sym (get_or-set_other marks i k mark false other) ∙ marked)
    ]
