-- What a granule holds after a step.
use Rattle.std.proofs.Common.{◌≡◌, ◌≢◌, ℕ, ◌+◌, ◌-◌, ◌%◌, ◌≤◌, Bool, true, false, eqb, not, ◌&&◌, List, length, Some, None, refl, sym, ap}
use Rattle.std.proofs.Common.{subst, ◌∙◌, arith, ◌⊎◌, ⊎_elim, inl, inr}
use Rattle.std.proofs.lemmas.Bool.{and_cases, cases_lt, cond_both, eqb-true, eqb-false, ltb-false}
use Rattle.byteorder.specs.Endian.{little_bytes}
use Rattle.byteorder.specs.Numbers.{length-bytes_low_first}
use Rattle.base.specs.Ram.{ram_base}
use Rattle.base.specs.Size.{bytes_of}
use Rattle.cap_bounds.specs.CapValue.{CapValue, IsSound, is_tagged, value_of, word_of}
use Rattle.cap_bounds.specs.RecordLaws.{value_of-word_of}
use Rattle.cap_bounds.specs.SoundLaws.{word_of-below}
use Rattle.origins.specs.declared.place.Place.TheVariants as place
use Rattle.tagged_memory.specs.AccessLaws.{aligned-place_fault, in_ram-place_fault}
use Rattle.tagged_memory.specs.Memory.{Memory, bytes_at, capability_written, data_written, has_tag, is_in_ram, place_fault, touches}
use Rattle.tagged_memory.specs.Memory.{word_at}
use Rattle.tagged_memory.specs.MemoryLaws.{in_ram, tags-data_written, has_tag-capability_written_here, has_tag-capability_written_other}
use Rattle.tagged_memory.specs.MemoryLaws.{word_at-capability_written_here}
use Rattle.tagged_memory.specs.Replaced.{part-kept, part-untouched}
use Rattle.isa_rows.specs.declared.operands.Insn.{Insn}
use Rattle.registers.specs.Registers.{register}
use Rattle.steps.specs.AppliedLaws.{IsSoundEffect}
use Rattle.steps.specs.Effect.{applied}
use Rattle.steps.specs.State.{State}
use Rattle.steps.specs.declared.effect.Effect.{Effect}
use Rattle.steps.specs.declared.effect.StoreCapability.{StoreCapability as CapabilityStore}
use Rattle.steps.specs.declared.effect.Store.{Store as Storing}
use Rattle.steps.specs.declared.effect.Effect.TheVariants.{Trap, Nothing, Write, Unseal, Store, StoreCapability, DeviceLoad, DeviceStore}
use Rattle.steps.specs.declared.effect.Effect.TheVariants.{Jump, Link, Enter, Special, Csr, Return}
use Rattle.origins.specs.Made.{granule_made}
use Rattle.origins.specs.Places.{IsThere, held}
use Rattle.origins.specs.declared.making.Making.{Making}
use Rattle.origins.specs.declared.making.Making.TheVariants.{Copied, Number}
use Rattle.origins.proofs.Does.{Carries}
use Rattle.origins.proofs.Stays.{stored-in_ram}
use Rattle.origins.proofs.Values.{tagged-value_of}
use Rattle.origins.proofs.Becomes.{IsWritten}

and-false : (b : Bool) → (b && false) ≡ false
and-false true = refl
and-false false = refl

and-true : (b : Bool) → (b && true) ≡ b
and-true true = refl
and-true false = refl

value-same : (w x : ℕ) (t u : Bool) → w ≡ x → t ≡ u → value_of w t ≡ value_of x u
value-same w x t u word tag = ap (λ y. value_of y t) word ∙ ap (λ b. value_of x b) tag

word-of_bytes : (m n : Memory) (g : ℕ) → bytes_at n g 16 ≡ bytes_at m g 16 → word_at n g ≡ word_at m g
word-of_bytes m n g same = rw same refl

module _ (m : Memory) (g : ℕ) (inside : is_in_ram m g 16 ≡ true) where
  -- a word stays where bytes that it does not touch are written
  word-untouched : (address : ℕ) (new : List ℕ) → is_in_ram m address (length new) ≡ true → touches address (length new) g ≡ false
      → word_at (data_written m address new) g ≡ word_at m g
  unfolding data_written
  word-untouched address new e far =
      let place = in_ram m address (length new) e in
      let granule = in_ram m g 16 inside in
      ⊎_elim (λ empty. word-of_bytes m (data_written m address new) g
      (part-untouched m.bytes (address - ram_base) new place.1 (g - ram_base) 16 granule.1
      (let none : length new ≤ 0 = ltb-false _ _ empty in none)))
      (λ apart.
      let far : (g - ram_base + 16 ≤ address - ram_base) ⊎ (address - ram_base + length new ≤ g - ram_base) =
      ⊎_elim (λ after. inr (let h : address + length new ≤ g = ltb-false _ _ after in omega arith))
      (λ before. inl (let h : g + 16 ≤ address = ltb-false _ _ before in omega arith)) (and_cases _ _ apart) in
      word-of_bytes m (data_written m address new) g
      (part-kept m.bytes (address - ram_base) new place.1 (g - ram_base) 16 granule.1 far))
      (and_cases _ _ far)

  -- or where another granule is
  word-other : (address word : ℕ) (tag : Bool) → is_in_ram m address 16 ≡ true → address % 16 ≡ 0 → g % 16 ≡ 0 → g ≢ address
      → word_at (capability_written m address word tag) g ≡ word_at m g
  unfolding capability_written
  word-other address word tag e aligned multiple other =
      let place = in_ram m address 16 e in
      let granule = in_ram m g 16 inside in
      let far : (g - ram_base + 16 ≤ address - ram_base) ⊎ (address - ram_base + 16 ≤ g - ram_base) =
      ⊎_elim (λ before. inl (omega arith)) (λ after. inr (omega (arith, other))) (cases_lt g address) in
      word-of_bytes m (capability_written m address word tag) g
      (part-kept m.bytes (address - ram_base) _ place.1 (g - ram_base) 16 granule.1 far)

module _ (s : State) (insn : Insn) (address : ℕ) (there : IsThere (place.Granule address) s) where
  store-written : (w : Storing) → is_in_ram s.memory w.address (bytes_of w.size) ≡ true
      → IsWritten (place.Granule address) s (applied (Store w) s) (granule_made address (Store w) insn)
  unfolding applied held
  store-written w e =
      let new : List ℕ = little_bytes (bytes_of w.size) w.number in
      let many : length new ≡ bytes_of w.size = length-bytes_low_first 0 (bytes_of w.size) w.number in
      let tags : has_tag (data_written s.memory w.address new) address
      ≡ (has_tag s.memory address && not (touches w.address (bytes_of w.size) address)) =
      tags-data_written s.memory w.address new address
      ∙ ap (λ k. has_tag s.memory address && not (touches w.address k address)) many in
      cond_both (touches w.address (bytes_of w.size) address) (Some Number) None
      (IsWritten (place.Granule address) s (applied (Store w) s))
      (λ touched. tagged-value_of _ _ ∙ tags ∙ ap (λ b. has_tag s.memory address && not b) touched ∙ and-false _)
      (λ apart. value-same _ _ _ _
      (word-untouched s.memory address there.1 w.address new (stored-in_ram s.memory w.address (bytes_of w.size) w.number e)
      (ap (λ k. touches w.address k address) many ∙ apart))
      (tags ∙ ap (λ b. has_tag s.memory address && not b) apart ∙ and-true _))

  capability-written : (w : CapabilityStore CapValue) → place_fault s.memory w.address 16 ≡ None → IsSound w.value
      → w.value ≡ register s.registers insn.rs2
      → IsWritten (place.Granule address) s (applied (StoreCapability w) s) (granule_made address (StoreCapability w) insn)
  unfolding applied held
  capability-written w none sound copied =
      let inside = in_ram-place_fault s.memory w.address 16 none in
      let word : ℕ = word_of w.value in
      let tag : Bool = is_tagged w.value in
      let later : Memory = capability_written s.memory w.address word tag in
      cond_both (eqb address w.address) (Some (Copied (place.Register insn.rs2))) None
      (IsWritten (place.Granule address) s (applied (StoreCapability w) s))
      (λ here. subst (λ g. value_of (word_at later g) (has_tag later g) ≡ register s.registers insn.rs2) (sym (eqb-true _ _ here))
      (value-same _ _ _ _ (word_at-capability_written_here s.memory w.address word tag inside (word_of-below w.value sound))
      (has_tag-capability_written_here s.memory w.address word tag)
      ∙ value_of-word_of w.value sound ∙ copied))
      (λ elsewhere.
      let other : address ≢ w.address = eqb-false _ _ elsewhere in
      value-same _ _ _ _
      (word-other s.memory address there.1 w.address word tag inside (aligned-place_fault s.memory w.address 16 none) there.0 other)
      (has_tag-capability_written_other s.memory w.address word tag address other))

  pub granule-written : (making : Making) (e : Effect CapValue) → Carries making insn e s → IsSoundEffect e s
      → IsWritten (place.Granule address) s (applied e s) (granule_made address e insn)
  unfolding applied held
  granule-written making (Store w) made sound = store-written w sound
  granule-written making (StoreCapability w) made sound = capability-written w sound.0 sound.1 made
  granule-written making (Trap f) made sound = refl
  granule-written making Nothing made sound = refl
  granule-written making (Write w) made sound = refl
  granule-written making (Unseal w) made sound = refl
  granule-written making (DeviceLoad l) made sound = refl
  granule-written making (DeviceStore w) made sound = refl
  granule-written making (Jump target) made sound = refl
  granule-written making (Link l) made sound = refl
  granule-written making (Enter e) made sound = refl
  granule-written making (Special w) made sound = refl
  granule-written making (Csr w) made sound = refl
  granule-written making (Return sealed) made sound = refl
