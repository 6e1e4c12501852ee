-- Bytes that a stop watches.
use Rattle.std.proofs.Common.{◌≡◌, ℕ, Bool, true, false, List, [], ◌∷◌, ◌++◌, append-nil, refl, sym, ap, ◌∙◌}
use Rattle.std.specs.Prelude.{Option, Some, None, not, if◌then◌else◌}
use Rattle.cap_bounds.specs.CapValue.{CapValue}
use Rattle.tagged_memory.specs.Memory.{Memory, bytes_at, fill_fault, is_in_ram}
use Rattle.debugger.specs.Marked.{seen, seen_mark}
use Rattle.debugger.specs.Stops.{Mark, other_bytes}
use Rattle.debugger.specs.declared.marks.Mark.{Mark as Kept}
use Rattle.tagged_memory.specs.declared.fault.MemoryFault.{MemoryFault}
use Rattle.tagged_memory.specs.declared.fault.MemoryFault.TheVariants.{M3}

inside : (b : Bool) → (if not b then Some M3 else None) ≡ None → b ≡ true
inside true h = refl
inside false h = absurd (cc)

outside : (b : Bool) (fault : MemoryFault) → (if not b then Some M3 else None) ≡ Some fault → b ≡ false
outside true fault h = absurd (cc)
outside false fault h = refl

pub are_inside : (m : Memory) (address n : ℕ) → fill_fault m address n ≡ None → is_in_ram m address n ≡ true
unfolding fill_fault
are_inside m address n h = inside (is_in_ram m address n) h

pub are_outside : (m : Memory) (address n : ℕ) (fault : MemoryFault) → fill_fault m address n ≡ Some fault → is_in_ram m address n ≡ false
unfolding fill_fault
are_outside m address n fault h = outside (is_in_ram m address n) fault h

-- ---- marks

pub seen_last : {C : Type 0} (value : C → CapValue) (marks : List (Kept C)) (mark : Kept C)
    → seen value (marks ++ mark ∷ []) ≡ seen value marks ++ seen_mark value mark ∷ []
seen_last value [] mark = refl
seen_last value (m ∷ ms) mark = ap (λ l. seen_mark value m ∷ l) (seen_last value ms mark)

pub marked_outside : (marks : List Mark) (m : Memory) (address n : ℕ) → is_in_ram m address n ≡ false
    → marks ≡ marks ++ (if is_in_ram m address n then other_bytes address (bytes_at m address n) ∷ [] else [])
marked_outside marks m address n h =
    sym (ap (λ b. marks ++ (if b then other_bytes address (bytes_at m address n) ∷ [] else [])) h ∙ append-nil marks)

pub marked_inside : (marks later : List Mark) (m : Memory) (address n : ℕ) (kept : List ℕ) → is_in_ram m address n ≡ true
    → kept ≡ bytes_at m address n → later ≡ marks ++ other_bytes address kept ∷ []
    → later ≡ marks ++ (if is_in_ram m address n then other_bytes address (bytes_at m address n) ∷ [] else [])
marked_inside marks later m address n kept h same e =
    e ∙ ap (λ bytes. marks ++ other_bytes address bytes ∷ []) same
    ∙ ap (λ b. marks ++ (if b then other_bytes address (bytes_at m address n) ∷ [] else [])) (sym h)
