-- A place that is there stays there at every event.
use Rattle.std.proofs.Common.{◌≡◌, ℕ, true, length, Option, Some, None, refl, sym, subst}
use Rattle.byteorder.specs.Endian.{little_bytes}
use Rattle.byteorder.specs.Numbers.{length-bytes_low_first}
use Rattle.base.specs.Size.{bytes_of}
use Rattle.cap_bounds.specs.CapValue.{CapValue, is_tagged, word_of}
use Rattle.origins.specs.declared.place.Place.{Place}
use Rattle.origins.specs.declared.place.Place.TheVariants as place
use Rattle.tagged_memory.specs.AccessLaws.{in_ram-place_fault}
use Rattle.tagged_memory.specs.Memory.{Memory, is_in_ram}
use Rattle.tagged_memory.specs.MemoryLaws.{length-data_written, length-capability_written}
use Rattle.steps.specs.AppliedLaws.{IsSoundEffect}
use Rattle.steps.specs.Effect.{applied}
use Rattle.steps.specs.Event.{after}
use Rattle.steps.specs.EventLaws.{step_effect-sound}
use Rattle.steps.specs.IsState.{IsState}
use Rattle.steps.specs.State.{State}
use Rattle.steps.specs.Step.{step_effect, stepped, stepped_unless}
use Rattle.steps.specs.declared.effect.Effect.{Effect}
use Rattle.steps.specs.declared.effect.Effect.TheVariants.{Trap, Nothing, Write, Unseal, Store, StoreCapability, DeviceLoad, DeviceStore}
use Rattle.steps.specs.declared.effect.Effect.TheVariants.{Jump, Link, Enter, Special, Csr, Return}
use Rattle.steps.specs.declared.event.Event.{Event}
use Rattle.steps.specs.declared.event.Event.TheVariants.{Step, Tick, Byte}
use Rattle.origins.specs.Places.{IsThere}

in_ram-length : (m n : Memory) (address size : ℕ) → length n.bytes ≡ length m.bytes → is_in_ram m address size ≡ true
    → is_in_ram n address size ≡ true
unfolding is_in_ram
in_ram-length m n address size same e = rw same e

-- a number that is stored lies in RAM
pub stored-in_ram : (m : Memory) (address size number : ℕ) → is_in_ram m address size ≡ true
    → is_in_ram m address (length (little_bytes size number)) ≡ true
stored-in_ram m address size number inside = rw (length-bytes_low_first 0 size number) inside

module _ (s : State) where
  pub length-applied : (e : Effect CapValue) → IsSoundEffect e s → length (applied e s).memory.bytes ≡ length s.memory.bytes
  unfolding applied
  length-applied (Store w) sound =
      length-data_written s.memory w.address (little_bytes (bytes_of w.size) w.number)
      (stored-in_ram s.memory w.address (bytes_of w.size) w.number sound)
  length-applied (StoreCapability w) sound =
      length-capability_written s.memory w.address (word_of w.value) (is_tagged w.value) (in_ram-place_fault s.memory w.address 16 sound.0)
  length-applied (Trap f) sound = refl
  length-applied Nothing sound = refl
  length-applied (Write w) sound = refl
  length-applied (Unseal w) sound = refl
  length-applied (DeviceLoad l) sound = refl
  length-applied (DeviceStore w) sound = refl
  length-applied (Jump target) sound = refl
  length-applied (Link l) sound = refl
  length-applied (Enter e) sound = refl
  length-applied (Special w) sound = refl
  length-applied (Csr w) sound = refl
  length-applied (Return sealed) sound = refl

  pub place-stays : (later : State) → length later.memory.bytes ≡ length s.memory.bytes → (p : Place) → IsThere p s → IsThere p later
  place-stays later same (place.Register n) there = there
  place-stays later same (place.Special n) there = there
  place-stays later same (place.Granule address) there = (there.0, in_ram-length s.memory later.memory address 16 same there.1)

  module _ (is : IsState s) where
    length-unless : (halted : Option ℕ) → length (stepped_unless halted s).memory.bytes ≡ length s.memory.bytes
    length-unless None = length-applied (step_effect s) (step_effect-sound s is)
    length-unless (Some number) = refl

    pub length-after : (e : Event) → length (after e s).memory.bytes ≡ length s.memory.bytes
    unfolding stepped
    length-after Step = length-unless s.devices.halted
    length-after Tick = refl
    length-after (Byte b) = refl

    pub event-stays : (e : Event) (p : Place) → IsThere p s → IsThere p (after e s)
    event-stays e p there = place-stays (after e s) (length-after e) p there

pub stays-as : (s later : State) (e : Event) (p : Place) → IsState s → IsThere p s → later ≡ after e s → IsThere p later
stays-as s later e p is there same = subst (IsThere p) (sym same) (event-stays s is e p there)
