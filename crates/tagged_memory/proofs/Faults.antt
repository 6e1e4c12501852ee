-- When an access is refused, by arithmetic.
use Rattle.std.proofs.Common.{◌≡◌, ℕ, ◌+◌, ◌%◌, ◌<◌, ◌≤◌, List, [], Option, Some, None, Ok, Err, length, refl, sym, ap, ◌∙◌, arith}
use Rattle.std.proofs.lemmas.Bool.Decides.{nat_tests}
use Rattle.tagged_memory.specs.declared.fault.MemoryFault.{MemoryFault}
use Rattle.tagged_memory.specs.declared.fault.MemoryFault.TheVariants.{M3, M4}
use Rattle.base.specs.Ram.{ram_base}
use Rattle.base.specs.FirstFault.{unless}
use Rattle.tagged_memory.specs.Memory.{Memory, is_in_ram, fill_fault, place_fault}
use Rattle.tagged_memory.specs.Layout.{memory_of}

pub fill_fault-below : (m : Memory) (address size : ℕ) → address < ram_base → fill_fault m address size ≡ Some M3
unfolding fill_fault is_in_ram
fill_fault-below m address size h = grind (arith, nat_tests)

pub fill_fault-past : (m : Memory) (address size : ℕ) → ram_base + length m.bytes < address + size → fill_fault m address size ≡ Some M3
unfolding fill_fault is_in_ram
fill_fault-past m address size h = grind (arith, nat_tests)

pub fill_fault-inside : (m : Memory) (address size : ℕ) → ram_base ≤ address → address + size ≤ ram_base + length m.bytes
    → fill_fault m address size ≡ None
unfolding fill_fault is_in_ram
fill_fault-inside m address size low high = grind (arith, nat_tests)

-- the tags have no part in it
pub fill_fault-by_bytes : (bytes planes : List ℕ) (address size : ℕ)
    → fill_fault (memory_of bytes planes) address size ≡ fill_fault (memory_of bytes []) address size
unfolding fill_fault is_in_ram
fill_fault-by_bytes bytes planes address size = refl

pub place_fault-by_bytes : (bytes planes : List ℕ) (address size : ℕ)
    → place_fault (memory_of bytes planes) address size ≡ place_fault (memory_of bytes []) address size
unfolding place_fault is_in_ram
place_fault-by_bytes bytes planes address size = refl

pub place_fault-aligned : (m : Memory) (address size : ℕ) → address % size ≡ 0 → place_fault m address size ≡ fill_fault m address size
unfolding place_fault fill_fault
place_fault-aligned m address size h = grind (arith, nat_tests)

pub place_fault-misaligned : (m : Memory) (address size : ℕ) → (address % size ≡ 0 → ⊥) → place_fault m address size ≡ Some M4
unfolding place_fault
place_fault-misaligned m address size h = grind (arith, nat_tests)

-- an answer is given where there is no fault, and a fault is the same whatever the answer would be
pub unless_given : {X : Type 0} (fault : Option MemoryFault) (x y : X) → Ok y ≡ unless fault x → (fault ≡ None) × (x ≡ y)
unless_given None x y e = (refl, cc)
unless_given (Some f) x y e = cc

pub unless_refused : {X Y : Type 0} (fault : Option MemoryFault) (x : X) (y : Y) (f : MemoryFault) → Err f ≡ unless fault x → fault ≡ Some f
unless_refused None x y f e = cc
unless_refused (Some g) x y f e = let same : g ≡ f = cc in cc

-- what the place of an access tells of the access of a memory with those bytes
pub access-refused : {X : Type 0} {m : Memory} (bytes planes slice : List ℕ) (address size x : ℕ) (y : X)
    (f : MemoryFault)
    → memory_of bytes planes ≡ m → slice ≡ bytes → Err f ≡ unless (place_fault (memory_of slice []) address size) x
    → Err f ≡ unless (place_fault m address size) y
access-refused {m = m} bytes planes slice address size x y f view read e =
    let here : place_fault m address size ≡ Some f =
    sym (ap (λ n. place_fault n address size) view)
    ∙ place_fault-by_bytes bytes planes address size
    ∙ sym (ap (λ b. place_fault (memory_of b []) address size) read)
    ∙ unless_refused (place_fault (memory_of slice []) address size) x y f e in
    sym (ap (λ g. unless g y) here)

pub access-given : {X : Type 0} {m : Memory} (bytes planes slice : List ℕ) (address size x p : ℕ) (y : X)
    → memory_of bytes planes ≡ m → slice ≡ bytes → Ok p ≡ unless (place_fault (memory_of slice []) address size) x
    → Ok y ≡ unless (place_fault m address size) y
access-given {m = m} bytes planes slice address size x p y view read e =
    let here : place_fault m address size ≡ None =
    sym (ap (λ n. place_fault n address size) view)
    ∙ place_fault-by_bytes bytes planes address size
    ∙ sym (ap (λ b. place_fault (memory_of b []) address size) read)
    ∙ (unless_given (place_fault (memory_of slice []) address size) x p e).0 in
    sym (ap (λ g. unless g y) here)

-- the same for bytes that are filled in
pub fill-refused : {X : Type 0} {m : Memory} (bytes planes slice : List ℕ) (address size x : ℕ) (y : X)
    (f : MemoryFault)
    → memory_of bytes planes ≡ m → slice ≡ bytes → Err f ≡ unless (fill_fault (memory_of slice []) address size) x
    → Err f ≡ unless (fill_fault m address size) y
fill-refused {m = m} bytes planes slice address size x y f view read e =
    let here : fill_fault m address size ≡ Some f =
    sym (ap (λ n. fill_fault n address size) view)
    ∙ fill_fault-by_bytes bytes planes address size
    ∙ sym (ap (λ b. fill_fault (memory_of b []) address size) read)
    ∙ unless_refused (fill_fault (memory_of slice []) address size) x y f e in
    sym (ap (λ g. unless g y) here)

pub fill-given : {X : Type 0} {m : Memory} (bytes planes slice : List ℕ) (address size x p : ℕ) (y : X)
    → memory_of bytes planes ≡ m → slice ≡ bytes → Ok p ≡ unless (fill_fault (memory_of slice []) address size) x
    → Ok y ≡ unless (fill_fault m address size) y
fill-given {m = m} bytes planes slice address size x p y view read e =
    let here : fill_fault m address size ≡ None =
    sym (ap (λ n. fill_fault n address size) view)
    ∙ fill_fault-by_bytes bytes planes address size
    ∙ sym (ap (λ b. fill_fault (memory_of b []) address size) read)
    ∙ (unless_given (fill_fault (memory_of slice []) address size) x p e).0 in
    sym (ap (λ g. unless g y) here)
