-- Authority doesn't grow at a plain event, which leaves alone what it may not change.
use Rattle.std.proofs.Common.{◌≡◌, ℕ, Option, None, Some, Result, Ok, Err, refl, sym, subst}
use Rattle.std.specs.Prelude.{OnOk}
use Rattle.std.proofs.lemmas.Bool.{cond_both}
use Rattle.base.specs.declared.fault.Fault.{Fault}
use Rattle.base.specs.declared.cause.Cause.TheVariants as cause
use Rattle.base.specs.Fault.{fault}
use Rattle.cap_checks.specs.FirstFault.{fetch_fault}
use Rattle.tagged_memory.specs.Memory.{is_in_ram, number_at}
use Rattle.devices.specs.Devices.{Devices, interrupts_of, transmit, received}
use Rattle.special_regs.specs.Interrupts.{pending}
use Rattle.special_regs.specs.declared.interrupts.Interrupt.{Interrupt}
use Rattle.isa_rows.specs.declared.operands.Insn.{Insn}
use Rattle.isa_rows.specs.Kind.{kind_of}
use Rattle.isa_rows.specs.Decoded.{insn_of}
use Rattle.steps.specs.declared.event.Event.{Event}
use Rattle.steps.specs.declared.event.Event.TheVariants.{Step, Tick, Byte}
use Rattle.steps.specs.Effect.{applied}
use Rattle.steps.specs.Event.{after, sent, outcome}
use Rattle.steps.specs.EventLaws.{step_effect-sound}
use Rattle.steps.specs.IsState.{IsState}
use Rattle.steps.specs.Outcome.{Plain}
use Rattle.steps.specs.State.{State, pc_of}
use Rattle.steps.specs.AskedLaws.{fetch-fetched}
use Rattle.steps.specs.RowEffects.{fetched}
use Rattle.steps.specs.Step.{fetch, decoded_effect, fetched_effect, decided, step_effect, stepped_unless, stepped, step_sent_unless}
use Rattle.steps.specs.Step.{step_sent}
use Rattle.steps.specs.Outcome.{step_outcome_unless, step_outcome}
use Rattle.authority.specs.Authority.{Not, IsWritable, LeavesDevices, LeavesAlone}
use Rattle.authority.specs.Grounded.{GrowsNot, IsFramed}
use Rattle.authority.specs.GroundedLaws.{GrowsNot-framed, GrowsNot-refl, LeavesAlone-refl}
use Rattle.authority.specs.FrameLaws.{framed-by, registers-same, scrs-same, memory-same}
use Rattle.authority.specs.Derives.{Derives}
use Rattle.authority.specs.EffectLaws.{effect-framed}
use Rattle.authority.specs.LeftLaws.{effect-leaves, effect-silent}
use Rattle.authority.specs.RowLaws.{kind_effect-derives}

-- ---- the effect of a step

module _ (s : State) (is : IsState s) where
  decoded_effect-derives : (o : Option Insn) (word : ℕ) → fetch_fault s.scrs.pcc ≡ None → Derives (decoded_effect o word s) s
  decoded_effect-derives (Some insn) word passes = kind_effect-derives s is insn (kind_of insn.row) word passes
  decoded_effect-derives None word passes = tt

  fetched_effect-derives : (r : Result ℕ Fault) → OnOk r (fetch_fault s.scrs.pcc ≡ None) → Derives (fetched_effect r s) s
  fetched_effect-derives (Ok word) passes = decoded_effect-derives (insn_of word) word passes
  fetched_effect-derives (Err f) passes = tt

  fetched-checked : (f : Option Fault) → fetch_fault s.scrs.pcc ≡ f → OnOk (fetched f s) (fetch_fault s.scrs.pcc ≡ None)
  unfolding fetched
  fetched-checked (Some f) same = tt
  fetched-checked None same =
      cond_both (is_in_ram s.memory (pc_of s) 4) (Ok (number_at s.memory (pc_of s) 4)) (Err (fault cause.FetchAccess (pc_of s)))
      (λ r. OnOk r (fetch_fault s.scrs.pcc ≡ None)) (λ _. same) (λ _. tt)

  decided-derives : (o : Option Interrupt) → Derives (decided o s) s
  decided-derives (Some interrupt) = tt
  decided-derives None =
      fetched_effect-derives (fetch s)
      (subst (λ r. OnOk r (fetch_fault s.scrs.pcc ≡ None)) (sym (fetch-fetched s)) (fetched-checked (fetch_fault s.scrs.pcc) refl))

  pub step_effect-derives : Derives (step_effect s) s
  unfolding step_effect
  step_effect-derives = decided-derives (pending s.csrs (interrupts_of s.devices))

  -- ---- a step

  stepped-grows_not : (halted : Option ℕ) → step_outcome_unless halted s ≡ Plain → GrowsNot s (stepped_unless halted s)
  stepped-grows_not None plain =
      GrowsNot-framed s (applied (step_effect s) s)
      (effect-framed (step_effect s) s is.memory (step_effect-sound s is) step_effect-derives plain)
  stepped-grows_not (Some number) plain = GrowsNot-refl s

  stepped-leaves : (halted : Option ℕ) → step_outcome_unless halted s ≡ Plain → LeavesAlone s (stepped_unless halted s)
  stepped-leaves None plain = effect-leaves (step_effect s) s (step_effect-sound s is) step_effect-derives plain
  stepped-leaves (Some number) plain = LeavesAlone-refl s

  stepped-silent : (halted : Option ℕ) → Not (IsWritable s transmit) → step_sent_unless halted s ≡ None
  stepped-silent None none = effect-silent (step_effect s) s step_effect-derives none
  stepped-silent (Some number) none = refl

  -- ---- events

  other_devices : (devices : Devices) → IsFramed s (record s { devices = devices })
  other_devices devices = framed-by s _ (registers-same s) (scrs-same s) (memory-same s)

  pub event-grows_not : (e : Event) → outcome e s ≡ Plain → GrowsNot s (after e s)
  unfolding stepped step_outcome
  event-grows_not Step plain = stepped-grows_not s.devices.halted plain
  event-grows_not Tick plain = GrowsNot-framed s (after Tick s) (other_devices (after Tick s).devices)
  event-grows_not (Byte b) plain = GrowsNot-framed s (after (Byte b) s) (other_devices (after (Byte b) s).devices)

  left-devices : (devices : Devices) → LeavesDevices s devices → LeavesAlone s (record s { devices = devices })
  left-devices devices left = let all = LeavesAlone-refl s in record {
    memory = all.memory;
    devices = left;
    scrs = all.scrs;
    csrs = all.csrs;
  }

  pub event-leaves : (e : Event) → outcome e s ≡ Plain → LeavesAlone s (after e s)
  unfolding stepped step_outcome received
  event-leaves Step plain = stepped-leaves s.devices.halted plain
  event-leaves Tick plain =
      left-devices (after Tick s).devices (record { halt = λ _. refl; kept = λ _ _. refl; control = λ _. refl })
  event-leaves (Byte b) plain =
      left-devices (after (Byte b) s).devices (record { halt = λ _. refl; kept = λ _ _. refl; control = λ _. refl })

  pub event-silent : (e : Event) → Not (IsWritable s transmit) → sent e s ≡ None
  unfolding step_sent
  event-silent Step none = stepped-silent s.devices.halted none
  event-silent Tick none = refl
  event-silent (Byte b) none = refl
