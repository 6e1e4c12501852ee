-- What a step changes is a function of its looks, and so is the byte that it sends: one line an effect.
use Rattle.std.proofs.Common.{◌≡◌, ℕ, ◌+◌, ◌-◌, ◌<◌, ◌≤◌, Bool, true, false, eqb, not, ◌&&◌, cond, List, length, Option, None, Some}
use Rattle.std.proofs.Common.{refl, sym, ap, subst, ◌∙◌, inl, inr, arith}
use Rattle.std.specs.Prelude.{slice_index}
use Rattle.std.proofs.lemmas.Bool.{cases_lt}
use Rattle.byteorder.specs.Endian.{little_bytes}
use Rattle.byteorder.specs.Numbers.{length-bytes_low_first}
use Rattle.base.specs.Ram.{ram_base}
use Rattle.base.specs.Size.{bytes_of}
use Rattle.base.specs.declared.registers.scr.TheConstants.{MTCC, MTDC, MSCRATCHC, MEPCC}
use Rattle.cap_bounds.specs.CapValue.{CapValue, word_of, is_tagged}
use Rattle.special_regs.specs.Scrs.{Scrs}
use Rattle.special_regs.specs.Traps.{target}
use Rattle.special_regs.specs.Writes.{views_written, scr_written}
use Rattle.tagged_memory.specs.AccessLaws.{in_ram-place_fault}
use Rattle.tagged_memory.specs.Memory.{Memory, is_in_ram, has_tag, touches, data_written, capability_written}
use Rattle.tagged_memory.specs.MemoryLaws.{in_ram, length-data_written, byte-data_written, tags-data_written, length-capability_written}
use Rattle.tagged_memory.specs.MemoryLaws.{byte-capability_written, has_tag-capability_written}
use Rattle.tagged_memory.specs.Replaced.{element-new}
use Rattle.steps.specs.AppliedLaws.{IsSoundEffect}
use Rattle.steps.specs.Effect.{applied, sent_by}
use Rattle.steps.specs.EventLaws.{step_effect-sound}
use Rattle.steps.specs.IsState.{IsState}
use Rattle.steps.specs.Outcome.{is_trap, outcome_of, step_outcome_unless, step_outcome}
use Rattle.steps.specs.State.{State}
use Rattle.steps.specs.Step.{step_effect, stepped_unless, stepped, step_sent_unless, step_sent}
use Rattle.steps.specs.declared.effect.Effect.{Effect}
use Rattle.steps.specs.declared.effect.Effect.TheVariants as effect
use Rattle.authority.specs.Authority.{SameScrs}
use Rattle.authority.specs.Changes.{IsChangedAlike, ChangesAlike}
use Rattle.authority.specs.Derives.{UsesSystem, Derives}
use Rattle.authority.specs.SameEffectLaws.{joined, elsewise, is_elsewise, same-joined, in_ram-same, step_effect-same}
use Rattle.authority.specs.StepLaws.{step_effect-derives}
use Rattle.authority.specs.WorldLooks.{SameLooks}

-- ---- parts

kept : {A : Type 0} (x y : A) → IsChangedAlike x x y y
kept x y = inr (refl, refl)

replaced : {A : Type 0} (b : Bool) (new x y : A) → IsChangedAlike x (cond b new x) y (cond b new y)
replaced true new x y = inl refl
replaced false new x y = inr (refl, refl)

cleared : (gone x y : Bool) → IsChangedAlike x (x && not gone) y (y && not gone)
cleared true true true = inl refl
cleared true true false = inl refl
cleared true false true = inl refl
cleared true false false = inl refl
cleared false true true = inr (refl, refl)
cleared false true false = inr (refl, refl)
cleared false false true = inr (refl, refl)
cleared false false false = inr (refl, refl)

-- ---- memory

-- two memories before a store and after it
record StoresAlike (m m' other other' : Memory) : Type 0 where
  size : length other'.bytes ≡ length m'.bytes
  bytes :
      (a : ℕ) → ram_base ≤ a
      → IsChangedAlike (slice_index m.bytes (a - ram_base)) (slice_index m'.bytes (a - ram_base))
      (slice_index other.bytes (a - ram_base)) (slice_index other'.bytes (a - ram_base))
  tags : (granule : ℕ) → IsChangedAlike (has_tag m granule) (has_tag m' granule) (has_tag other granule) (has_tag other' granule)

memory-kept : (m other : Memory) → length other.bytes ≡ length m.bytes → StoresAlike m m other other
memory-kept m other same = record {
  size = same;
  bytes = λ a low. kept (slice_index m.bytes (a - ram_base)) (slice_index other.bytes (a - ram_base));
  tags = λ granule. kept (has_tag m granule) (has_tag other granule);
}

module _ (m other : Memory) (same : length other.bytes ≡ length m.bytes) (address : ℕ) (new : List ℕ)
    (inside : is_in_ram m address (length new) ≡ true) where
  there : is_in_ram other address (length new) ≡ true
  there = in_ram-same m other address (length new) same ∙ inside

  byte-new : (x : Memory) → is_in_ram x address (length new) ≡ true → (a : ℕ) → address ≤ a → a < address + length new
      → slice_index (data_written x address new).bytes (a - ram_base) ≡ slice_index new (a - ram_base - (address - ram_base))
  unfolding data_written
  byte-new x within a low high =
      let place = in_ram x address (length new) within in
      let base : ram_base ≤ address = place.0 in
      element-new x.bytes (address - ram_base) new place.1 (a - ram_base) 0 (omega arith) (omega arith)

  byte-stored : (a : ℕ) → ram_base ≤ a
      → IsChangedAlike (slice_index m.bytes (a - ram_base)) (slice_index (data_written m address new).bytes (a - ram_base))
      (slice_index other.bytes (a - ram_base)) (slice_index (data_written other address new).bytes (a - ram_base))
  byte-stored a low =
      elim (cases_lt a address) [
        | inl before ↦ inr (
          byte-data_written m address new inside a low (inl before),
          byte-data_written other address new there a low (inl before),
        )
        | inr above ↦ elim (cases_lt a (address + length new)) [
          | inl under ↦ inl (byte-new other there a above under ∙ sym (byte-new m inside a above under))
          | inr past ↦ inr (
            byte-data_written m address new inside a low (inr past),
            byte-data_written other address new there a low (inr past),
          )
        ]
      ]

  data-stored : StoresAlike m (data_written m address new) other (data_written other address new)
  data-stored = record {
    size = length-data_written other address new there ∙ same ∙ sym (length-data_written m address new inside);
    bytes = byte-stored;
    tags = λ granule. rw (tags-data_written m address new granule, tags-data_written other address new granule)
        (cleared (touches address (length new) granule) (has_tag m granule) (has_tag other granule));
  }

number-stored : (m other : Memory) → length other.bytes ≡ length m.bytes → (address size number : ℕ) → is_in_ram m address size ≡ true
    → StoresAlike m (data_written m address (little_bytes size number)) other (data_written other address (little_bytes size number))
number-stored m other same address size number inside =
    data-stored m other same address (little_bytes size number) (rw (length-bytes_low_first 0 size number) inside)

module _ (m other : Memory) (same : length other.bytes ≡ length m.bytes) (address word : ℕ) (tag : Bool)
    (inside : is_in_ram m address 16 ≡ true) where
  granule-there : is_in_ram other address 16 ≡ true
  granule-there = in_ram-same m other address 16 same ∙ inside

  granule-new : (a : ℕ) → address ≤ a → a < address + 16
      → slice_index (capability_written other address word tag).bytes (a - ram_base)
      ≡ slice_index (capability_written m address word tag).bytes (a - ram_base)
  unfolding capability_written
  granule-new a low high =
      let place = in_ram m address 16 inside in
      let place' = in_ram other address 16 granule-there in
      let base : ram_base ≤ address = place.0 in
      let from : address - ram_base ≤ a - ram_base = omega arith in
      let to : a - ram_base < address - ram_base + 16 = omega arith in
      element-new other.bytes (address - ram_base) _ place'.1 (a - ram_base) 0 from to
      ∙ sym (element-new m.bytes (address - ram_base) _ place.1 (a - ram_base) 0 from to)

  granule-byte : (a : ℕ) → ram_base ≤ a
      → IsChangedAlike (slice_index m.bytes (a - ram_base)) (slice_index (capability_written m address word tag).bytes (a - ram_base))
      (slice_index other.bytes (a - ram_base)) (slice_index (capability_written other address word tag).bytes (a - ram_base))
  granule-byte a low =
      elim (cases_lt a address) [
        | inl before ↦ inr (
          byte-capability_written m address word tag inside a low (inl before),
          byte-capability_written other address word tag granule-there a low (inl before),
        )
        | inr above ↦ elim (cases_lt a (address + 16)) [
          | inl under ↦ inl (granule-new a above under)
          | inr past ↦ inr (
            byte-capability_written m address word tag inside a low (inr past),
            byte-capability_written other address word tag granule-there a low (inr past),
          )
        ]
      ]

  capability-stored : StoresAlike m (capability_written m address word tag) other (capability_written other address word tag)
  capability-stored = record {
    size = length-capability_written other address word tag granule-there ∙ same
        ∙ sym (length-capability_written m address word tag inside);
    bytes = granule-byte;
    tags = λ granule. rw (has_tag-capability_written m address word tag granule, has_tag-capability_written other address word tag granule)
        (replaced (eqb granule address) tag (has_tag m granule) (has_tag other granule));
  }

-- ---- special registers

record ScrsAlike (x x' y y' : Scrs) : Type 0 where
  mtcc : IsChangedAlike x.mtcc x'.mtcc y.mtcc y'.mtcc
  mtdc : IsChangedAlike x.mtdc x'.mtdc y.mtdc y'.mtdc
  mscratchc : IsChangedAlike x.mscratchc x'.mscratchc y.mscratchc y'.mscratchc
  mepcc : IsChangedAlike x.mepcc x'.mepcc y.mepcc y'.mepcc

-- PCC and DDC aside
scrs-kept : (x y : Scrs) (pcc other ddc : CapValue)
    → ScrsAlike x (record x { pcc = pcc; ddc = ddc }) y (record y { pcc = other; ddc = ddc })
scrs-kept x y pcc other ddc = record {
  mtcc = kept x.mtcc y.mtcc;
  mtdc = kept x.mtdc y.mtdc;
  mscratchc = kept x.mscratchc y.mscratchc;
  mepcc = kept x.mepcc y.mepcc;
}

scrs-replaced : (x y : Scrs) (number : ℕ) (v pcc : CapValue)
    → ScrsAlike x (record (scr_written number v x) { pcc = pcc }) y (record (scr_written number v y) { pcc = pcc })
unfolding scr_written
scrs-replaced x y number v pcc = record {
  mtcc = replaced (eqb number MTCC) v x.mtcc y.mtcc;
  mtdc = replaced (eqb number MTDC) v x.mtdc y.mtdc;
  mscratchc = replaced (eqb number MSCRATCHC) v x.mscratchc y.mscratchc;
  mepcc = replaced (eqb number MEPCC) v x.mepcc y.mepcc;
}

-- the same is made of the same
scrs-made : (x y : Scrs) (make : Scrs → Scrs) → y ≡ x → ScrsAlike x (make x) y (make y)
scrs-made x y make same = record {
  mtcc = inl (ap (λ z. (make z).mtcc) same);
  mtdc = inl (ap (λ z. (make z).mtdc) same);
  mscratchc = inl (ap (λ z. (make z).mscratchc) same);
  mepcc = inl (ap (λ z. (make z).mepcc) same);
}

-- ---- effects

alike : (s s' t t' : State) → t'.registers ≡ s'.registers → t'.scrs.pcc ≡ s'.scrs.pcc → t'.scrs.ddc ≡ s'.scrs.ddc → t'.csrs ≡ s'.csrs
    → t'.devices ≡ s'.devices → StoresAlike s.memory s'.memory t.memory t'.memory → ScrsAlike s.scrs s'.scrs t.scrs t'.scrs
    → ChangesAlike s s' t t'
alike s s' t t' registers pcc ddc csrs devices memory scrs = record {
  registers = registers;
  pcc = pcc;
  ddc = ddc;
  csrs = csrs;
  devices = devices;
  size = memory.size;
  bytes = memory.bytes;
  tags = memory.tags;
  mtcc = scrs.mtcc;
  mtdc = scrs.mtdc;
  mscratchc = scrs.mscratchc;
  mepcc = scrs.mepcc;
}

module _ (s : State) (m : Memory) (x : Scrs) (looks : SameLooks s (elsewise s m x)) where
  abbrev other : State
  other = elsewise s m x

  memory : StoresAlike s.memory s.memory m m
  memory = memory-kept s.memory m looks.size

  shown : UsesSystem s → SameScrs s.scrs (joined s.scrs x)
  shown uses = looks.scrs uses.passes uses.access

  changes : (e : Effect CapValue) → (applied e other).registers ≡ (applied e s).registers
      → (applied e other).scrs.pcc ≡ (applied e s).scrs.pcc → (applied e other).scrs.ddc ≡ (applied e s).scrs.ddc
      → (applied e other).csrs ≡ (applied e s).csrs → (applied e other).devices ≡ (applied e s).devices
      → StoresAlike s.memory (applied e s).memory m (applied e other).memory
      → ScrsAlike s.scrs (applied e s).scrs (joined s.scrs x) (applied e other).scrs
      → ChangesAlike s (applied e s) other (applied e other)
  changes e = alike s (applied e s) other (applied e other)

  effect-changes : (e : Effect CapValue) → IsSoundEffect e s → Derives e s → is_trap (outcome_of e) ≡ false
      → ChangesAlike s (applied e s) other (applied e other)
  unfolding applied outcome_of scr_written views_written
  effect-changes (effect.Trap fault) sound derives none = cc
  effect-changes effect.Nothing sound derives none =
      changes effect.Nothing refl refl refl refl refl memory (scrs-kept s.scrs (joined s.scrs x) _ _ s.scrs.ddc)
  effect-changes (effect.Write w) sound derives none =
      changes (effect.Write w) refl refl refl refl refl memory (scrs-kept s.scrs (joined s.scrs x) _ _ s.scrs.ddc)
  effect-changes (effect.Unseal w) sound derives none =
      changes (effect.Unseal w) refl refl refl refl refl memory (scrs-kept s.scrs (joined s.scrs x) _ _ s.scrs.ddc)
  effect-changes (effect.Store w) sound derives none =
      changes (effect.Store w) refl refl refl refl refl
      (number-stored s.memory m looks.size w.address (bytes_of w.size) w.number sound)
      (scrs-kept s.scrs (joined s.scrs x) _ _ s.scrs.ddc)
  effect-changes (effect.StoreCapability w) sound derives none =
      changes (effect.StoreCapability w) refl refl refl refl refl
      (capability-stored s.memory m looks.size w.address (word_of w.value) (is_tagged w.value)
      (in_ram-place_fault s.memory w.address 16 sound.0))
      (scrs-kept s.scrs (joined s.scrs x) _ _ s.scrs.ddc)
  effect-changes (effect.DeviceLoad l) sound derives none =
      changes (effect.DeviceLoad l) refl refl refl refl refl memory (scrs-kept s.scrs (joined s.scrs x) _ _ s.scrs.ddc)
  effect-changes (effect.DeviceStore w) sound derives none =
      changes (effect.DeviceStore w) refl refl refl refl refl memory (scrs-kept s.scrs (joined s.scrs x) _ _ s.scrs.ddc)
  effect-changes (effect.Jump to) sound derives none =
      changes (effect.Jump to) refl refl refl refl refl memory (scrs-kept s.scrs (joined s.scrs x) _ _ s.scrs.ddc)
  effect-changes (effect.Link l) sound derives none =
      changes (effect.Link l) refl refl refl refl refl memory (scrs-kept s.scrs (joined s.scrs x) _ _ s.scrs.ddc)
  effect-changes (effect.Enter e) sound derives none =
      changes (effect.Enter e) refl refl refl refl refl memory (scrs-kept s.scrs (joined s.scrs x) _ _ s.scrs.ddc)
  effect-changes (effect.Special w) sound derives none =
      changes (effect.Special w) refl refl refl refl refl memory (scrs-replaced s.scrs (joined s.scrs x) w.number w.value _)
  effect-changes (effect.Csr w) sound derives none =
      changes (effect.Csr w) refl refl refl refl refl memory
      (scrs-made s.scrs (joined s.scrs x) (λ y. (applied (effect.Csr w) (record s { scrs = y })).scrs)
      (same-joined s.scrs x (shown derives.1)))
  effect-changes (effect.Return closed) sound derives none =
      changes (effect.Return closed) refl (ap target (shown derives.0).mepcc) refl refl refl memory
      (scrs-kept s.scrs (joined s.scrs x) _ _ s.scrs.ddc)

  -- ---- steps

  stepped-changes : IsState s → (halted : Option ℕ) → is_trap (step_outcome_unless halted s) ≡ false
      → ChangesAlike s (stepped_unless halted s) other (stepped_unless halted other)
  stepped-changes is None none =
      subst (λ e. ChangesAlike s (applied (step_effect s) s) other (applied e other))
      (sym (step_effect-same s other looks))
      (effect-changes (step_effect s) (step_effect-sound s is) (step_effect-derives s is) none)
  stepped-changes is (Some number) none =
      alike s s other other refl refl refl refl refl memory (scrs-kept s.scrs (joined s.scrs x) s.scrs.pcc s.scrs.pcc s.scrs.ddc)

  elsewise-changes : IsState s → is_trap (step_outcome s) ≡ false → ChangesAlike s (stepped s) other (stepped other)
  unfolding stepped step_outcome
  elsewise-changes is none = stepped-changes is s.devices.halted none

pub step-changes : (s t : State) → IsState s → SameLooks s t → is_trap (step_outcome s) ≡ false
    → ChangesAlike s (stepped s) t (stepped t)
step-changes s t is looks none =
    let same : t ≡ elsewise s t.memory t.scrs = is_elsewise s t looks.registers looks.pcc looks.ddc looks.csrs looks.devices in
    subst (λ u. ChangesAlike s (stepped s) u (stepped u)) (sym same)
    (elsewise-changes s t.memory t.scrs (subst (SameLooks s) same looks) is none)

sent-unless : (s t : State) → SameLooks s t → (halted : Option ℕ) → step_sent_unless halted t ≡ step_sent_unless halted s
sent-unless s t looks None = ap sent_by (step_effect-same s t looks)
sent-unless s t looks (Some number) = refl

pub step-sends : (s t : State) → SameLooks s t → step_sent t ≡ step_sent s
unfolding step_sent
step-sends s t looks = ap (λ d. step_sent_unless d.halted t) looks.devices ∙ sent-unless s t looks s.devices.halted
