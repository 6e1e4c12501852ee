-- At no event is anything kept that is lent without Global, but where something reachable may keep it: one line an effect.
use Rattle.std.proofs.Common.{◌≡◌, ℕ, true, Option, None, Some, sym, subst, inl, inr}
use Rattle.std.proofs.lemmas.Bool.{cases_Bool}
use Rattle.byteorder.specs.Endian.{little_bytes}
use Rattle.byteorder.specs.Numbers.{length-bytes_low_first}
use Rattle.base.specs.Size.{bytes_of}
use Rattle.cap_bounds.specs.CapValue.{CapValue}
use Rattle.cap_rights.specs.Permission.{permits}
use Rattle.cap_rights.specs.declared.permission.Permission.TheVariants.{Global}
use Rattle.cap_rights.specs.RightsLaws.{permits-in_rights}
use Rattle.tagged_memory.specs.Memory.{IsMemory}
use Rattle.steps.specs.AppliedLaws.{IsSoundEffect}
use Rattle.steps.specs.declared.effect.Effect.{Effect}
use Rattle.steps.specs.declared.effect.Effect.TheVariants as effect
use Rattle.steps.specs.declared.event.Event.{Event}
use Rattle.steps.specs.declared.event.Event.TheVariants.{Step, Tick, Byte}
use Rattle.steps.specs.Effect.{applied}
use Rattle.steps.specs.Event.{after}
use Rattle.steps.specs.EventLaws.{step_effect-sound}
use Rattle.steps.specs.IsState.{IsState}
use Rattle.steps.specs.State.{State}
use Rattle.steps.specs.Step.{step_effect, stepped_unless, stepped}
use Rattle.authority.specs.Authority.{IsCovered}
use Rattle.authority.specs.Derives.{MayStoreTagged, Derives}
use Rattle.authority.specs.HeldLaws.{held-data_written, held-capability_written}
use Rattle.authority.specs.Lent.{IsGivenBy, IsKeptBy, before, given, lent, KeepsNothingLentBeyond}
use Rattle.authority.specs.Reachable.{IsReachable}
use Rattle.authority.specs.StepLaws.{step_effect-derives}

-- ---- a value that is stored

covered-given : (s : State) (v : CapValue) → permits v Global ≡ true → IsCovered s v → IsGivenBy (IsReachable s) v
covered-given s v global covered = record {
  source = covered.source;
  member = covered.reachable;
  global = permits-in_rights v covered.source Global covered.within global;
  within = covered.within;
}

stored-kept : (s : State) (granule : ℕ) (v : CapValue) → IsCovered s v → MayStoreTagged s granule v
    → IsKeptBy (IsReachable s) s.memory granule v
stored-kept s granule v covered may = elim (cases_Bool (permits v Global)) [
  | inl global ↦ given global (covered-given s v global covered) may.source may.reachable may.opens
  | inr local ↦ lent local may.source may.reachable (record { store = may.opens; locals = may.locals local })
]

-- ---- effects

effect-kept : (e : Effect CapValue) (s : State) → IsMemory s.memory → IsSoundEffect e s → Derives e s
    → KeepsNothingLentBeyond (IsReachable s) s.memory (applied e s).memory
unfolding applied
effect-kept (effect.Store w) s memory sound derives = λ granule v here.
    before (held-data_written s.memory w.address (little_bytes (bytes_of w.size) w.number) memory
    (rw (length-bytes_low_first 0 (bytes_of w.size) w.number) sound) granule v here)
effect-kept (effect.StoreCapability w) s memory sound derives = λ granule v here.
    elim (held-capability_written s.memory w.address w.value memory sound.0 sound.1 granule v here) [
      | inl stored ↦
          subst (λ g. IsKeptBy (IsReachable s) s.memory g v) (sym stored.place)
          (subst (IsKeptBy (IsReachable s) s.memory w.address) (sym stored.value)
          (stored-kept s w.address w.value (derives.1 stored.tagged).covered (derives.2 stored.tagged)))
      | inr held ↦ before held
    ]
effect-kept (effect.Trap f) s memory sound derives = λ granule v here. before here
effect-kept effect.Nothing s memory sound derives = λ granule v here. before here
effect-kept (effect.Write w) s memory sound derives = λ granule v here. before here
effect-kept (effect.Unseal w) s memory sound derives = λ granule v here. before here
effect-kept (effect.DeviceLoad l) s memory sound derives = λ granule v here. before here
effect-kept (effect.DeviceStore w) s memory sound derives = λ granule v here. before here
effect-kept (effect.Jump target) s memory sound derives = λ granule v here. before here
effect-kept (effect.Link l) s memory sound derives = λ granule v here. before here
effect-kept (effect.Enter e) s memory sound derives = λ granule v here. before here
effect-kept (effect.Special w) s memory sound derives = λ granule v here. before here
effect-kept (effect.Csr w) s memory sound derives = λ granule v here. before here
effect-kept (effect.Return closed) s memory sound derives = λ granule v here. before here

-- ---- events

module _ (s : State) (is : IsState s) where
  stepped-kept : (halted : Option ℕ) → KeepsNothingLentBeyond (IsReachable s) s.memory (stepped_unless halted s).memory
  stepped-kept None = effect-kept (step_effect s) s is.memory (step_effect-sound s is) (step_effect-derives s is)
  stepped-kept (Some number) = λ granule v here. before here

  -- whatever it comes to
  pub event-kept : (e : Event) → KeepsNothingLentBeyond (IsReachable s) s.memory (after e s).memory
  unfolding stepped
  event-kept Step = stepped-kept s.devices.halted
  event-kept Tick = λ granule v here. before here
  event-kept (Byte b) = λ granule v here. before here
