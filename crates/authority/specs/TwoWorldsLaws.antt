-- Agreeing states step alike: the same outcome, the same byte, and after a plain event they agree again. One line an effect.
use Rattle.std.proofs.Common.{◌≡◌, ℕ, ◌+◌, ◌-◌, ◌%◌, ◌^◌, ◌<◌, ◌≤◌, Bool, true, eqb, not, ◌&&◌, cond, List, length}
use Rattle.std.proofs.Common.{Option, None, Some, refl, sym, ap, subst, ◌∙◌, ◌⊎◌, inl, inr, arith}
use Rattle.std.specs.Prelude.{slice_index}
use Rattle.std.proofs.lemmas.Bool.{cases_lt}
use Rattle.byteorder.specs.Endian.{little_bytes}
use Rattle.byteorder.specs.Numbers.{length-bytes_low_first}
use Rattle.base.specs.Ram.{ram_base}
use Rattle.base.specs.Size.{bytes_of}
use Rattle.cap_bounds.specs.CapValue.{CapValue, word_of, is_tagged}
use Rattle.special_regs.specs.Scrs.{Scrs}
use Rattle.special_regs.specs.Traps.{target, returned_scrs}
use Rattle.special_regs.specs.Writes.{views_written, scr_written}
use Rattle.tagged_memory.specs.AccessLaws.{in_ram-place_fault}
use Rattle.tagged_memory.specs.Memory.{Memory, is_in_ram, has_tag, touches, data_written, capability_written}
use Rattle.tagged_memory.specs.MemoryLaws.{in_ram, length-data_written, byte-data_written, tags-data_written, length-capability_written}
use Rattle.tagged_memory.specs.MemoryLaws.{byte-capability_written, has_tag-capability_written}
use Rattle.tagged_memory.specs.Replaced.{element-new}
use Rattle.steps.specs.AppliedLaws.{IsSoundEffect}
use Rattle.steps.specs.Effect.{applied, moved, sent_by}
use Rattle.steps.specs.Event.{after, sent, outcome}
use Rattle.steps.specs.EventLaws.{step_effect-sound}
use Rattle.steps.specs.IsState.{IsState}
use Rattle.steps.specs.Outcome.{Plain, outcome_of}
use Rattle.steps.specs.State.{State, pc_of}
use Rattle.steps.specs.Step.{step_effect, stepped_unless, stepped, step_sent_unless, step_sent}
use Rattle.steps.specs.Outcome.{step_outcome_unless, step_outcome}
use Rattle.steps.specs.declared.effect.Effect.{Effect}
use Rattle.steps.specs.declared.effect.Effect.TheVariants as effect
use Rattle.steps.specs.declared.event.Event.{Event}
use Rattle.steps.specs.declared.event.Event.TheVariants.{Step, Tick, Byte}
use Rattle.authority.specs.AgreeLaws.{looks-agree, IsReadable-before, IsTagReadable-before}
use Rattle.authority.specs.Authority.{HasSystem, SameScrs}
use Rattle.authority.specs.Derives.{Derives}
use Rattle.authority.specs.Grounded.{GrowsNot}
use Rattle.authority.specs.GroundedLaws.{HasSystem-before}
use Rattle.authority.specs.SameEffectLaws.{joined, elsewise, is_elsewise, same-joined, in_ram-same, step_effect-same}
use Rattle.authority.specs.RowLaws.{system-used}
use Rattle.authority.specs.StepLaws.{event-grows_not, step_effect-derives}
use Rattle.authority.specs.Worlds.{IsReadable, IsTagReadable, AgreesInMemory, Agree}

-- ---- memory

-- two memories that agree where the state's capabilities read
record AgreesWhere (s : State) (m other : Memory) : Type 0 where
  size : length other.bytes ≡ length m.bytes
  bytes :
      (a : ℕ) → ram_base ≤ a → IsReadable s a
      → slice_index other.bytes (a - ram_base) ≡ slice_index m.bytes (a - ram_base)
  tags : (granule : ℕ) → IsTagReadable s granule → has_tag other granule ≡ has_tag m granule

memory-same : (s : State) (other : Memory) → AgreesInMemory s other → AgreesWhere s s.memory other
memory-same s other agrees = record { size = agrees.size; bytes = agrees.bytes; tags = agrees.tags }

module _ (s : State) (m other : Memory) (agrees : AgreesWhere s m other) (address size : ℕ) (inside : is_in_ram m address size ≡ true) where
  other-inside : is_in_ram other address size ≡ true
  other-inside = in_ram-same m other address size agrees.size ∙ inside

-- the same bytes are stored in both
module _ (s : State) (m other : Memory) (agrees : AgreesWhere s m other) (address : ℕ) (new : List ℕ)
    (inside : is_in_ram m address (length new) ≡ true) where
  there : is_in_ram other address (length new) ≡ true
  there = other-inside s m other agrees address (length new) inside

  byte-new : (x : Memory) → is_in_ram x address (length new) ≡ true → (a : ℕ) → address ≤ a → a < address + length new
      → slice_index (data_written x address new).bytes (a - ram_base) ≡ slice_index new (a - ram_base - (address - ram_base))
  unfolding data_written
  byte-new x within a low high =
      let place = in_ram x address (length new) within in
      let base : ram_base ≤ address = place.0 in
      element-new x.bytes (address - ram_base) new place.1 (a - ram_base) 0 (omega arith) (omega arith)

  byte-same : (a : ℕ) → ram_base ≤ a → IsReadable s a
      → slice_index (data_written other address new).bytes (a - ram_base) ≡ slice_index (data_written m address new).bytes (a - ram_base)
  byte-same a low readable =
      let far-same : (a < address) ⊎ (address + length new ≤ a)
      → slice_index (data_written other address new).bytes (a - ram_base) ≡ slice_index (data_written m address new).bytes (a - ram_base) =
      λ far. byte-data_written other address new there a low far ∙ agrees.bytes a low readable
      ∙ sym (byte-data_written m address new inside a low far) in
      elim (cases_lt a address) [
        | inl before ↦ far-same (inl before)
        | inr above ↦ elim (cases_lt a (address + length new)) [
          | inl under ↦ byte-new other there a above under ∙ sym (byte-new m inside a above under)
          | inr past ↦ far-same (inr past)
        ]
      ]

  memory-stored : AgreesWhere s (data_written m address new) (data_written other address new)
  memory-stored = record {
    size = length-data_written other address new there ∙ agrees.size ∙ sym (length-data_written m address new inside);
    bytes = byte-same;
    tags = λ granule readable. tags-data_written other address new granule
        ∙ ap (λ tag. tag && not (touches address (length new) granule)) (agrees.tags granule readable)
        ∙ sym (tags-data_written m address new granule);
  }

memory-number : (s : State) (m other : Memory) → AgreesWhere s m other → (address size number : ℕ) → is_in_ram m address size ≡ true
    → AgreesWhere s (data_written m address (little_bytes size number)) (data_written other address (little_bytes size number))
memory-number s m other agrees address size number inside =
    memory-stored s m other agrees address (little_bytes size number) (rw (length-bytes_low_first 0 size number) inside)

-- the same capability is stored in both
module _ (s : State) (m other : Memory) (agrees : AgreesWhere s m other) (address word : ℕ) (tag : Bool)
    (inside : is_in_ram m address 16 ≡ true) where
  granule-there : is_in_ram other address 16 ≡ true
  granule-there = other-inside s m other agrees address 16 inside

  granule-new : (a : ℕ) → address ≤ a → a < address + 16
      → slice_index (capability_written other address word tag).bytes (a - ram_base)
      ≡ slice_index (capability_written m address word tag).bytes (a - ram_base)
  unfolding capability_written
  granule-new a low high =
      let place = in_ram m address 16 inside in
      let place' = in_ram other address 16 granule-there in
      let base : ram_base ≤ address = place.0 in
      let from : address - ram_base ≤ a - ram_base = omega arith in
      let to : a - ram_base < address - ram_base + 16 = omega arith in
      element-new other.bytes (address - ram_base) _ place'.1 (a - ram_base) 0 from to
      ∙ sym (element-new m.bytes (address - ram_base) _ place.1 (a - ram_base) 0 from to)

  granule-byte : (a : ℕ) → ram_base ≤ a → IsReadable s a
      → slice_index (capability_written other address word tag).bytes (a - ram_base)
      ≡ slice_index (capability_written m address word tag).bytes (a - ram_base)
  granule-byte a low readable =
      let far-same : (a < address) ⊎ (address + 16 ≤ a)
      → slice_index (capability_written other address word tag).bytes (a - ram_base)
      ≡ slice_index (capability_written m address word tag).bytes (a - ram_base) =
      λ far. byte-capability_written other address word tag granule-there a low far ∙ agrees.bytes a low readable
      ∙ sym (byte-capability_written m address word tag inside a low far) in
      elim (cases_lt a address) [
        | inl before ↦ far-same (inl before)
        | inr above ↦ elim (cases_lt a (address + 16)) [
          | inl under ↦ granule-new a above under
          | inr past ↦ far-same (inr past)
        ]
      ]

  memory-value : AgreesWhere s (capability_written m address word tag) (capability_written other address word tag)
  memory-value = record {
    size = length-capability_written other address word tag granule-there ∙ agrees.size
        ∙ sym (length-capability_written m address word tag inside);
    bytes = granule-byte;
    tags = λ granule readable. has_tag-capability_written other address word tag granule
        ∙ ap (cond (eqb granule address) tag) (agrees.tags granule readable)
        ∙ sym (has_tag-capability_written m address word tag granule);
  }

-- ---- effects

SameScrs-refl : (x : Scrs) → SameScrs x x
SameScrs-refl x = record { mtcc = refl; mtdc = refl; mscratchc = refl; mepcc = refl }

-- what agrees where the first state's capabilities read agrees where a later one's do
agree-by : (s later other : State) → GrowsNot s later → other.registers ≡ later.registers → other.scrs.pcc ≡ later.scrs.pcc
    → other.scrs.ddc ≡ later.scrs.ddc → other.csrs ≡ later.csrs → other.devices ≡ later.devices
    → AgreesWhere s later.memory other.memory → (HasSystem s → SameScrs later.scrs other.scrs) → Agree later other
agree-by s later other grows registers pcc ddc csrs devices memory scrs = record {
  registers = registers;
  pcc = pcc;
  ddc = ddc;
  csrs = csrs;
  devices = devices;
  memory = record {
    size = memory.size;
    bytes = λ a low readable. memory.bytes a low (IsReadable-before s later grows a readable);
    tags = λ granule readable. memory.tags granule (IsTagReadable-before s later grows granule readable);
  };
  scrs = λ has. scrs (HasSystem-before s later grows has);
}

module _ (s : State) (is : IsState s) (m : Memory) (x : Scrs) (agree : Agree s (elsewise s m x)) where
  memory : AgreesWhere s s.memory m
  memory = memory-same s m agree.memory

  -- whatever is made of the special registers, the same is made of the same
  scrs-by : (make : Scrs → Scrs) → HasSystem s → SameScrs (make s.scrs) (make (joined s.scrs x))
  scrs-by make has =
      subst (λ y. SameScrs (make s.scrs) (make y)) (sym (same-joined s.scrs x (agree.scrs has))) (SameScrs-refl (make s.scrs))

  abbrev next : ℕ
  next = (pc_of s + 4) % 2 ^ 64

  agree-applied : (e : Effect CapValue) → GrowsNot s (applied e s) → (applied e (elsewise s m x)).registers ≡ (applied e s).registers
      → (applied e (elsewise s m x)).scrs.pcc ≡ (applied e s).scrs.pcc → (applied e (elsewise s m x)).scrs.ddc ≡ (applied e s).scrs.ddc
      → (applied e (elsewise s m x)).csrs ≡ (applied e s).csrs → (applied e (elsewise s m x)).devices ≡ (applied e s).devices
      → AgreesWhere s (applied e s).memory (applied e (elsewise s m x)).memory
      → (HasSystem s → SameScrs (applied e s).scrs (applied e (elsewise s m x)).scrs)
      → Agree (applied e s) (applied e (elsewise s m x))
  agree-applied e = agree-by s (applied e s) (applied e (elsewise s m x))

  effect-agrees : (e : Effect CapValue) → IsSoundEffect e s → Derives e s → outcome_of e ≡ Plain → GrowsNot s (applied e s)
      → Agree (applied e s) (applied e (elsewise s m x))
  unfolding applied outcome_of scr_written views_written
  effect-agrees (effect.Trap fault) sound derives plain grows = cc
  effect-agrees effect.Nothing sound derives plain grows =
      agree-applied effect.Nothing grows refl refl refl refl refl memory (scrs-by (moved next))
  effect-agrees (effect.Write w) sound derives plain grows =
      agree-applied (effect.Write w) grows refl refl refl refl refl memory (scrs-by (moved next))
  effect-agrees (effect.Unseal w) sound derives plain grows =
      agree-applied (effect.Unseal w) grows refl refl refl refl refl memory (scrs-by (moved next))
  effect-agrees (effect.Store w) sound derives plain grows =
      agree-applied (effect.Store w) grows refl refl refl refl refl
      (memory-number s s.memory m memory w.address (bytes_of w.size) w.number sound) (scrs-by (moved next))
  effect-agrees (effect.StoreCapability w) sound derives plain grows =
      agree-applied (effect.StoreCapability w) grows refl refl refl refl refl
      (memory-value s s.memory m memory w.address (word_of w.value) (is_tagged w.value)
      (in_ram-place_fault s.memory w.address 16 sound.0))
      (scrs-by (moved next))
  effect-agrees (effect.DeviceLoad l) sound derives plain grows =
      agree-applied (effect.DeviceLoad l) grows refl refl refl refl refl memory (scrs-by (moved next))
  effect-agrees (effect.DeviceStore w) sound derives plain grows =
      agree-applied (effect.DeviceStore w) grows refl refl refl refl refl memory (scrs-by (moved next))
  effect-agrees (effect.Jump to) sound derives plain grows =
      agree-applied (effect.Jump to) grows refl refl refl refl refl memory (scrs-by (moved to))
  effect-agrees (effect.Link l) sound derives plain grows =
      agree-applied (effect.Link l) grows refl refl refl refl refl memory (scrs-by (moved l.target))
  effect-agrees (effect.Enter e) sound derives plain grows =
      agree-applied (effect.Enter e) grows refl refl refl refl refl memory (scrs-by (λ y. moved e.target (record y { pcc = e.code })))
  effect-agrees (effect.Special w) sound derives plain grows =
      agree-applied (effect.Special w) grows refl refl refl refl refl memory (scrs-by (λ y. moved next (scr_written w.number w.value y)))
  effect-agrees (effect.Csr w) sound derives plain grows =
      agree-applied (effect.Csr w) grows refl refl refl refl refl memory (scrs-by (λ y. moved next (views_written w.number w.value y)))
  effect-agrees (effect.Return closed) sound derives plain grows =
      let returns = ap target (agree.scrs (system-used s derives.0)).mepcc in
      agree-applied (effect.Return closed) grows refl returns refl refl refl memory (scrs-by returned_scrs)

  -- ---- steps and events

  stepped-agrees : (halted : Option ℕ) → step_outcome_unless halted s ≡ Plain → GrowsNot s (stepped_unless halted s)
      → Agree (stepped_unless halted s) (stepped_unless halted (elsewise s m x))
  stepped-agrees None plain grows =
      subst (λ e. Agree (applied (step_effect s) s) (applied e (elsewise s m x)))
      (sym (step_effect-same s (elsewise s m x) (looks-agree s (elsewise s m x) agree)))
      (effect-agrees (step_effect s) (step_effect-sound s is) (step_effect-derives s is) plain grows)
  stepped-agrees (Some number) plain grows = agree

  event-elsewise : (e : Event) → outcome e s ≡ Plain → Agree (after e s) (after e (elsewise s m x))
  unfolding stepped step_outcome
  event-elsewise Step plain = stepped-agrees s.devices.halted plain (event-grows_not s is Step plain)
  event-elsewise Tick plain =
      agree-by s (after Tick s) (after Tick (elsewise s m x)) (event-grows_not s is Tick refl) refl refl refl refl refl memory agree.scrs
  event-elsewise (Byte b) plain =
      let grows = event-grows_not s is (Byte b) refl in
      agree-by s (after (Byte b) s) (after (Byte b) (elsewise s m x)) grows refl refl refl refl refl memory agree.scrs

pub event-agrees : (e : Event) (s t : State) → IsState s → outcome e s ≡ Plain → Agree s t → Agree (after e s) (after e t)
event-agrees e s t is plain agree =
    let same : t ≡ elsewise s t.memory t.scrs = is_elsewise s t agree.registers agree.pcc agree.ddc agree.csrs agree.devices in
    subst (λ u. Agree (after e s) (after e u)) (sym same) (event-elsewise s is t.memory t.scrs (subst (Agree s) same agree) e plain)

-- ---- what is seen of a step, whatever its outcome

module _ (s t : State) (agree : Agree s t) where
  effect-same : step_effect t ≡ step_effect s
  effect-same = step_effect-same s t (looks-agree s t agree)

  step_outcome-same : (halted : Option ℕ) → step_outcome_unless halted t ≡ step_outcome_unless halted s
  step_outcome-same None = ap outcome_of effect-same
  step_outcome-same (Some number) = refl

  step_sent-same : (halted : Option ℕ) → step_sent_unless halted t ≡ step_sent_unless halted s
  step_sent-same None = ap sent_by effect-same
  step_sent-same (Some number) = refl

  pub outcome-same : (e : Event) → outcome e t ≡ outcome e s
  unfolding step_outcome
  outcome-same Step = ap (λ d. step_outcome_unless d.halted t) agree.devices ∙ step_outcome-same s.devices.halted
  outcome-same Tick = refl
  outcome-same (Byte b) = refl

  pub sent-same : (e : Event) → sent e t ≡ sent e s
  unfolding step_sent
  sent-same Step = ap (λ d. step_sent_unless d.halted t) agree.devices ∙ step_sent-same s.devices.halted
  sent-same Tick = refl
  sent-same (Byte b) = refl
