-- A plain effect that is derived leaves alone what it may not change, and sends nothing where it may not: one line an effect.
use Rattle.std.proofs.Common.{◌≡◌, ℕ, ◌+◌, ◌<◌, ◌≤◌, Bool, true, false, eqb, not, ◌&&◌, List, length, None, Some, ◌⊎◌, inl, inr, refl}
use Rattle.std.proofs.Common.{sym, ap}
use Rattle.std.proofs.Common.{◌∙◌, subst, arith, cond, lit≤}
use Rattle.std.proofs.lemmas.Bool.{and_parts, cases_Bool, cases_eq, cases_lt, cond_both, eqb-true, ltb-true}
use Rattle.byteorder.specs.Endian.{little_bytes}
use Rattle.byteorder.specs.Numbers.{length-bytes_low_first}
use Rattle.base.specs.Size.{bytes_of}
use Rattle.base.specs.declared.registers.scr.TheConstants.{MTCC, MTDC, MSCRATCHC, MEPCC}
use Rattle.cap_bounds.specs.CapValue.{CapValue, word_of, is_tagged}
use Rattle.tagged_memory.specs.Memory.{is_in_ram, has_tag, touches, data_written, capability_written, place_fault}
use Rattle.tagged_memory.specs.MemoryLaws.{length-data_written, byte-data_written, tags-data_written, length-capability_written}
use Rattle.tagged_memory.specs.MemoryLaws.{byte-capability_written, has_tag-capability_written_other}
use Rattle.tagged_memory.specs.AccessLaws.{in_ram-place_fault}
use Rattle.devices.specs.KeptLaws.{kept-elsewhere}
use Rattle.devices.specs.Devices.{halt, transmit, control_register, taken_at, written, effect_of, byte_sent}
use Rattle.devices.specs.declared.devices.Effect.TheVariants as sends
use Rattle.special_regs.specs.declared.csrs.Csrs.{Csrs}
use Rattle.special_regs.specs.Scrs.{Scrs}
use Rattle.special_regs.specs.Writes.{scr_written}
use Rattle.steps.specs.declared.effect.Effect.{Effect}
use Rattle.steps.specs.declared.effect.Effect.TheVariants as effect
use Rattle.steps.specs.Effect.{applied, sent_by}
use Rattle.steps.specs.Outcome.{Plain, outcome_of}
use Rattle.steps.specs.AppliedLaws.{IsSoundEffect}
use Rattle.steps.specs.State.{State}
use Rattle.authority.specs.Authority.{Not, IsWritable, HasSystem, LeavesMemory, LeavesDevices, SameScrs, SameCsrs, LeavesAlone}
use Rattle.authority.specs.RowLaws.{system-used}
use Rattle.authority.specs.Derives.{MayWrite, Derives}

-- ---- parts that stay

memory-left : (s : State) → LeavesMemory s s.memory
memory-left s = record { size = refl; bytes = λ a low none. refl; tags = λ granule none. refl }

devices-left : (s : State) → LeavesDevices s s.devices
devices-left s = record { halt = λ _. refl; kept = λ _ _. refl; control = λ _. refl }

scrs-left : (x : Scrs) (pcc ddc : CapValue) → SameScrs x (record x { pcc = pcc; ddc = ddc })
scrs-left x pcc ddc = record { mtcc = refl; mtdc = refl; mscratchc = refl; mepcc = refl }

csrs-left : (c : Csrs) (steps instructions : ℕ) → SameCsrs c (record c { mcycle = steps; minstret = instructions })
csrs-left c steps instructions = record {
  mstatus_mie = refl;
  mstatus_mpie = refl;
  mie = refl;
  kept = refl;
  mcause = refl;
  mtval = refl;
}

-- ---- memory

-- bytes that are written and bytes of a granule have one in common
touched : (address size granule : ℕ) → touches address size granule ≡ true
    → (a : ℕ) × (granule ≤ a) × (a < granule + 16) × (address ≤ a) × (a < address + size)
touched address size granule touch =
    let both = and_parts _ _ touch in
    let some : 0 < size = ltb-true _ _ both.0 in
    let near = and_parts _ _ both.1 in
    let below : granule < address + size = ltb-true _ _ near.0 in
    let above : address < granule + 16 = ltb-true _ _ near.1 in
    elim (cases_lt address granule) [
      | inl before ↦ (granule, omega arith, omega arith, omega arith, below)
      | inr beyond ↦ (address, beyond, above, omega arith, omega arith)
    ]

kept-tag : (t touch : Bool) → touch ≡ false → (t && not touch) ≡ t
kept-tag true touch none = ap not none
kept-tag false touch none = refl

outside : (s : State) (address size a : ℕ) → MayWrite s address size → Not (IsWritable s a) → (a < address) ⊎ (address + size ≤ a)
outside s address size a may none = elim (cases_lt a address) [
  | inl below ↦ inl below
  | inr above ↦ elim (cases_lt a (address + size)) [ inl inside ↦ absurd (none (may a above inside)) | inr past ↦ inr past ]
]

memory-data : (s : State) (address : ℕ) (new : List ℕ) → is_in_ram s.memory address (length new) ≡ true
    → MayWrite s address (length new) → LeavesMemory s (data_written s.memory address new)
memory-data s address new inside may = record {
  size = length-data_written s.memory address new inside;
  bytes = λ a low none. byte-data_written s.memory address new inside a low (outside s address (length new) a may none);
  tags = λ granule none. elim (cases_Bool (touches address (length new) granule)) [
    | inl touch ↦
        let a = touched address (length new) granule touch in
        absurd (none a.0 a.1 a.2 (may a.0 a.3 a.4))
    | inr apart ↦ tags-data_written s.memory address new granule
        ∙ kept-tag (has_tag s.memory granule) (touches address (length new) granule) apart
  ];
}

memory-number : (s : State) (address size number : ℕ) → is_in_ram s.memory address size ≡ true → MayWrite s address size
    → LeavesMemory s (data_written s.memory address (little_bytes size number))
memory-number s address size number inside may =
    memory-data s address (little_bytes size number) (rw (length-bytes_low_first 0 size number) inside)
    (rw (length-bytes_low_first 0 size number) may)

memory-value : (s : State) (address word : ℕ) (tag : Bool) → place_fault s.memory address 16 ≡ None → MayWrite s address 16
    → LeavesMemory s (capability_written s.memory address word tag)
memory-value s address word tag place may =
    let inside = in_ram-place_fault s.memory address 16 place in
    record {
      size = length-capability_written s.memory address word tag inside;
      bytes = λ a low none. byte-capability_written s.memory address word tag inside a low (outside s address 16 a may none);
      tags = λ granule none. elim (cases_eq granule address) [
        | inl same ↦ absurd (none granule (omega arith) (omega arith) (may granule (omega arith) (omega arith)))
        | inr apart ↦ has_tag-capability_written_other s.memory address word tag granule apart
      ];
    }

-- ---- devices

module _ (s : State) (address number : ℕ) (writable : IsWritable s address) where
  elsewhere : (register : ℕ) → Not (IsWritable s register) → eqb address register ≡ true → ⊥
  elsewhere register none same = none (subst (IsWritable s) (eqb-true address register same) writable)

  devices-written : LeavesDevices s (written s.devices address number)
  unfolding written
  devices-written = record {
    halt = λ none. cond_both (eqb address halt) (Some number) s.devices.halted (λ x. x ≡ s.devices.halted)
        (λ same. absurd (elsewhere halt none same)) (λ _. refl);
    kept = λ k none. kept-elsewhere address number k s.devices.kept (λ same. none (subst (IsWritable s) same writable));
    control = λ none. cond_both (eqb address control_register) _ s.devices.control (λ x. x ≡ s.devices.control)
        (λ same. absurd (elsewhere control_register none same)) (λ _. refl);
  }

  silent-written : Not (IsWritable s transmit) → byte_sent (effect_of address number) ≡ None
  unfolding effect_of
  silent-written none =
      cond_both (eqb address halt) _ _ (λ x. byte_sent x ≡ None) (λ _. refl)
      (λ _. cond_both (eqb address transmit) _ sends.None (λ x. byte_sent x ≡ None)
      (λ same. absurd (elsewhere transmit none same)) (λ _. refl))

devices-taken : (s : State) (address : ℕ) → LeavesDevices s (taken_at address s.devices)
unfolding taken_at
devices-taken s address = record { halt = λ _. refl; kept = λ _ _. refl; control = λ _. refl }

-- ---- special registers

-- a register below MTCC is none of those
kept-register : (number register : ℕ) (v old : CapValue) → MTCC ≤ register → (MTCC ≤ number → ⊥)
    → cond (eqb number register) v old ≡ old
kept-register number register v old high none =
    cond_both (eqb number register) v old (λ x. x ≡ old)
    (λ same. absurd (none (subst (λ n. MTCC ≤ n) (sym (eqb-true number register same)) high))) (λ _. refl)

scrs-replaced : (number : ℕ) (v : CapValue) (x : Scrs) → (MTCC ≤ number → ⊥) → SameScrs x (scr_written number v x)
unfolding scr_written
scrs-replaced number v x none = record {
  mtcc = kept-register number MTCC v x.mtcc (lit≤ tt) none;
  mtdc = kept-register number MTDC v x.mtdc (lit≤ tt) none;
  mscratchc = kept-register number MSCRATCHC v x.mscratchc (lit≤ tt) none;
  mepcc = kept-register number MEPCC v x.mepcc (lit≤ tt) none;
}

-- PCC moves besides
scrs-moved : (x y : Scrs) (pcc : CapValue) → SameScrs x y → SameScrs x (record y { pcc = pcc })
scrs-moved x y pcc same = record { mtcc = same.mtcc; mtdc = same.mtdc; mscratchc = same.mscratchc; mepcc = same.mepcc }

-- ---- effects

left : (s later : State) → LeavesMemory s later.memory → LeavesDevices s later.devices → (Not (HasSystem s) → SameScrs s.scrs later.scrs)
    → (Not (HasSystem s) → SameCsrs s.csrs later.csrs) → LeavesAlone s later
left s later memory devices scrs csrs = record { memory = memory; devices = devices; scrs = scrs; csrs = csrs }

pub effect-leaves : (e : Effect CapValue) (s : State) → IsSoundEffect e s → Derives e s → outcome_of e ≡ Plain → LeavesAlone s (applied e s)
unfolding applied outcome_of
effect-leaves (effect.Trap fault) s sound derives plain = cc
effect-leaves effect.Nothing s sound derives plain =
    left s _ (memory-left s) (devices-left s) (λ _. scrs-left s.scrs _ s.scrs.ddc) (λ _. csrs-left s.csrs _ _)
effect-leaves (effect.Write w) s sound derives plain =
    left s _ (memory-left s) (devices-left s) (λ _. scrs-left s.scrs _ s.scrs.ddc) (λ _. csrs-left s.csrs _ _)
effect-leaves (effect.Unseal w) s sound derives plain =
    left s _ (memory-left s) (devices-left s) (λ _. scrs-left s.scrs _ s.scrs.ddc) (λ _. csrs-left s.csrs _ _)
effect-leaves (effect.Store w) s sound derives plain =
    left s _ (memory-number s w.address (bytes_of w.size) w.number sound derives) (devices-left s)
    (λ _. scrs-left s.scrs _ s.scrs.ddc) (λ _. csrs-left s.csrs _ _)
effect-leaves (effect.StoreCapability w) s sound derives plain =
    left s _ (memory-value s w.address (word_of w.value) (is_tagged w.value) sound.0 derives.0) (devices-left s)
    (λ _. scrs-left s.scrs _ s.scrs.ddc) (λ _. csrs-left s.csrs _ _)
effect-leaves (effect.DeviceLoad l) s sound derives plain =
    left s _ (memory-left s) (devices-taken s l.address) (λ _. scrs-left s.scrs _ s.scrs.ddc) (λ _. csrs-left s.csrs _ _)
effect-leaves (effect.DeviceStore w) s sound derives plain =
    left s _ (memory-left s) (devices-written s w.address w.number derives) (λ _. scrs-left s.scrs _ s.scrs.ddc)
    (λ _. csrs-left s.csrs _ _)
effect-leaves (effect.Jump target) s sound derives plain =
    left s _ (memory-left s) (devices-left s) (λ _. scrs-left s.scrs _ s.scrs.ddc) (λ _. csrs-left s.csrs _ _)
effect-leaves (effect.Link l) s sound derives plain =
    left s _ (memory-left s) (devices-left s) (λ _. scrs-left s.scrs _ s.scrs.ddc) (λ _. csrs-left s.csrs _ _)
effect-leaves (effect.Enter e) s sound derives plain =
    left s _ (memory-left s) (devices-left s) (λ _. scrs-left s.scrs _ s.scrs.ddc) (λ _. csrs-left s.csrs _ _)
effect-leaves (effect.Special w) s sound derives plain =
    left s _ (memory-left s) (devices-left s)
    (λ none. scrs-moved s.scrs (scr_written w.number w.value s.scrs) _
    (scrs-replaced w.number w.value s.scrs (λ high. none (system-used s (derives.2 high)))))
    (λ _. csrs-left s.csrs _ _)
effect-leaves (effect.Csr w) s sound derives plain =
    left s _ (memory-left s) (devices-left s) (λ none. absurd (none (system-used s derives.1)))
    (λ none. absurd (none (system-used s derives.1)))
effect-leaves (effect.Return closed) s sound derives plain =
    left s _ (memory-left s) (devices-left s) (λ none. absurd (none (system-used s derives.0)))
    (λ none. absurd (none (system-used s derives.0)))

pub effect-silent : (e : Effect CapValue) (s : State) → Derives e s → Not (IsWritable s transmit) → sent_by e ≡ None
unfolding sent_by
effect-silent (effect.DeviceStore w) s derives none = silent-written s w.address w.number derives none
effect-silent _ s derives none = refl
