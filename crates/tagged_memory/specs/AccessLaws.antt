-- An access without a fault, and a word that is stored and loaded again.
use Rattle.std.proofs.Common.{◌≡◌, ℕ, ◌%◌, true, false, None, Some, eqb, not, cond, refl}
use Rattle.std.proofs.lemmas.Bool.{eqb-true}
use Rattle.tagged_memory.specs.declared.fault.MemoryFault.TheVariants.{M3, M4}
use Rattle.tagged_memory.specs.Memory.{Memory, is_in_ram, fill_fault, place_fault, StoredIsLoaded}
use Rattle.tagged_memory.specs.MemoryLaws.{word_at-capability_written_here, has_tag-capability_written_here}

-- an access without a fault lies in RAM
pub in_ram-place_fault : (m : Memory) (address size : ℕ) → place_fault m address size ≡ None → is_in_ram m address size ≡ true
unfolding place_fault
in_ram-place_fault m address size none =
    elim (is_in_ram m address size) as
    (λ inside. cond (not (eqb (address % size) 0)) (Some M4) (cond (not inside) (Some M3) None) ≡ None → inside ≡ true) [
      | true ↦ λ _. refl
      | false ↦ elim (eqb (address % size) 0) as (λ aligned. cond (not aligned) (Some M4) (cond true (Some M3) None) ≡ None → false ≡ true)
          [ true ↦ λ e. cc | false ↦ λ e. cc ]
    ] none

pub in_ram-fill_fault : (m : Memory) (address size : ℕ) → fill_fault m address size ≡ None → is_in_ram m address size ≡ true
unfolding fill_fault
in_ram-fill_fault m address size none =
    elim (is_in_ram m address size) as (λ inside. cond (not inside) (Some M3) None ≡ None → inside ≡ true)
    [ true ↦ λ _. refl | false ↦ λ e. cc ] none

-- an access without a fault is aligned
pub aligned-place_fault : (m : Memory) (address size : ℕ) → place_fault m address size ≡ None → address % size ≡ 0
unfolding place_fault
aligned-place_fault m address size none =
    eqb-true _ _
    (elim (eqb (address % size) 0) as
    (λ aligned. cond (not aligned) (Some M4) (cond (not (is_in_ram m address size)) (Some M3) None) ≡ None → aligned ≡ true) [
      | true ↦ λ _. refl
      | false ↦ λ e. cc
    ] none)

pub stored_is_loaded : StoredIsLoaded
stored_is_loaded m address word tag none fits = (
  word_at-capability_written_here m address word tag (in_ram-place_fault m address 16 none) fits,
  has_tag-capability_written_here m address word tag,
)
