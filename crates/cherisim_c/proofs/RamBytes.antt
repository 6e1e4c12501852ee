-- Bytes of RAM, as many as are asked for.
use Rattle.std.proofs.Common.{Some, Ok, ◌≡◌, ℕ, ◌+◌, ◌-◌, ◌≤◌, length, drop, None, arith}
use Rattle.std.proofs.lemmas.Bool.Decides.{nat_tests}
use Rattle.std.proofs.lemmas.List.{length-drop, length-take-le}
use Rattle.std.specs.Prelude.{Option}
use Rattle.base.specs.FirstFault.{unless}
use Rattle.base.specs.Ram.{ram_base}
use Rattle.tagged_memory.specs.Memory.{Memory, is_in_ram, fill_fault, bytes_at}

record IsInside (m : Memory) (address size : ℕ) : Type 0 where
  low : ram_base ≤ address
  high : address + size ≤ ram_base + length m.bytes

inside : (m : Memory) (address size : ℕ) → fill_fault m address size ≡ None → IsInside m address size
unfolding fill_fault is_in_ram
inside m address size none = record { low = grind (arith, nat_tests, none); high = grind (arith, nat_tests, none) }

pub length-bytes_at : (m : Memory) (address size : ℕ) → fill_fault m address size ≡ None → length (bytes_at m address size) ≡ size
length-bytes_at m address size none =
    let ends = inside m address size none in
    let rest = length-drop (address - ram_base) m.bytes in
    length-take-le size (drop (address - ram_base) m.bytes) (omega (arith, rest, ends.low, ends.high))

-- an answer is what there is where there is no fault
pub answer-is : {F X : Type 0} (fault : Option F) (there given : X) → Ok given ≡ unless fault there → there ≡ given
answer-is None there given e = cc
answer-is (Some f) there given e = absurd (cc)
