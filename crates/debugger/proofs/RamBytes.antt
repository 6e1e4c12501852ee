-- Bytes of RAM, one more at a time.
use Rattle.std.proofs.Common.{◌≡◌, ℕ, zero, suc, ◌+◌, ◌-◌, ◌*◌, ◌%◌, ◌<◌, ◌≤◌, None, List, [], ◌∷◌, ◌++◌, length, take, drop}
use Rattle.std.proofs.Common.{refl, ap, sym, ◌∙◌, length-drop, arith}
use Rattle.std.specs.Prelude.{slice_index}
use Rattle.std.proofs.lemmas.Bool.{eq-eqb, le-leb}
use Rattle.std.proofs.Math.Seq.{take-add}
use Rattle.base.specs.Ram.{ram_base}
use Rattle.tagged_memory.specs.Memory.{Memory, is_in_ram, bytes_at, number_at, place_fault}

-- a byte of RAM may be read
pub no_fault : (m : Memory) (address : ℕ) → ram_base ≤ address → address < ram_base + length m.bytes → place_fault m address 1 ≡ None
unfolding place_fault is_in_ram
no_fault m address low high =
    let multiple : address % 1 ≡ 0 = omega arith in
    rw (
      eq-eqb (address % 1) 0 multiple,
      le-leb ram_base address low,
      le-leb (address + 1) (ram_base + length m.bytes) (omega (arith, high)),
    ) refl

first_byte : (xs : List ℕ) → 0 < length xs → take 1 xs ≡ (slice_index xs 0 + 256 * 0) ∷ []
first_byte [] h = absurd (omega arith)
first_byte (x ∷ xs) h = ap (λ n. n ∷ []) (omega arith)

-- the byte that is a number's only one
pub one_byte : (m : Memory) (address : ℕ) → ram_base ≤ address → address < ram_base + length m.bytes
    → bytes_at m address 1 ≡ number_at m address 1 ∷ []
one_byte m address low high = first_byte (drop (address - ram_base) m.bytes) (omega (arith, length-drop (address - ram_base) m.bytes))

drop_none : (n : ℕ) → drop {A = ℕ} n [] ≡ []
drop_none zero = refl
drop_none (suc n) = refl

drop_more : (k i : ℕ) (xs : List ℕ) → drop i (drop k xs) ≡ drop (k + i) xs
drop_more zero i xs = ap (λ n. drop n xs) (omega arith)
drop_more (suc k) i [] = drop_none i ∙ sym (drop_none (suc k + i))
drop_more (suc k) i (x ∷ xs) =
    let e : suc k + i ≡ suc (k + i) = omega arith in
    drop_more k i xs ∙ sym (ap (λ n. drop n (x ∷ xs)) e)

-- one byte more
pub one_more_byte : (m : Memory) (address i : ℕ) (b : ℕ) → bytes_at m (address + i) 1 ≡ b ∷ [] → ram_base ≤ address
    → bytes_at m address (i + 1) ≡ bytes_at m address i ++ b ∷ []
one_more_byte m address i b one low =
    let place : (address - ram_base) + i ≡ (address + i) - ram_base = omega arith in
    let later : drop i (drop (address - ram_base) m.bytes) ≡ drop ((address + i) - ram_base) m.bytes =
    drop_more (address - ram_base) i m.bytes ∙ ap (λ n. drop n m.bytes) place in
    take-add i 1 (drop (address - ram_base) m.bytes) ∙ ap (λ xs. bytes_at m address i ++ take 1 xs) later
    ∙ ap (λ xs. bytes_at m address i ++ xs) one
