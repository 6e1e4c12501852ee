-- Memory that is written from outside still holds capabilities where tags are.
use Rattle.std.proofs.Common.{◌≡◌, ℕ, Bool, true, false, Ok, List, length, None, Some, refl, sym, subst}
use Rattle.std.specs.Prelude.{Option, not, if◌then◌else◌}
use Rattle.base.specs.FirstFault.{unless}
use Rattle.cap_bounds.specs.CapValue.{CapValue, IsSound, word_of, is_tagged}
use Rattle.tagged_memory.specs.Memory.{Memory, IsMemory, is_in_ram, fill_fault, place_fault, data_written, capability_written}
use Rattle.tagged_memory.specs.declared.fault.MemoryFault.{MemoryFault}
use Rattle.tagged_memory.specs.declared.fault.MemoryFault.TheVariants.{M3}
use Rattle.steps.specs.State.{HoldsCapabilities}
use Rattle.steps.specs.StateLaws.{HoldsCapabilities-data_written, HoldsCapabilities-value_stored}

in-ram : (b : Bool) (x : Unit {0}) → Ok x ≡ unless (if not b then Some M3 else None) x → b ≡ true
in-ram true x e = refl
in-ram false x e = absurd (cc)

in_ram-fill_fault : (m : Memory) (address size : ℕ) (x : Unit {0}) → Ok x ≡ unless (fill_fault m address size) x
    → is_in_ram m address size ≡ true
unfolding fill_fault
in_ram-fill_fault m address size x e = in-ram (is_in_ram m address size) x e

none-of : (fault : Option MemoryFault) (x : Unit {0}) → Ok x ≡ unless fault x → fault ≡ None
none-of None x e = refl
none-of (Some f) x e = absurd (cc)

module _ (m new : Memory) (address : ℕ) (is : IsMemory m) (holds : HoldsCapabilities m) (x : Unit {0}) where
  pub filled : (bytes : List ℕ) → Ok x ≡ unless (fill_fault m address (length bytes)) x → new ≡ data_written m address bytes
      → HoldsCapabilities new
  filled bytes given written =
      subst HoldsCapabilities (sym written)
      (HoldsCapabilities-data_written m address bytes is (in_ram-fill_fault m address (length bytes) x given) holds)

  pub put : (v : CapValue) → IsSound v → Ok x ≡ unless (place_fault m address 16) x
      → new ≡ capability_written m address (word_of v) (is_tagged v) → HoldsCapabilities new
  put v sound given written =
      subst HoldsCapabilities (sym written)
      (HoldsCapabilities-value_stored m address v is (none-of (place_fault m address 16) x given) sound holds)
