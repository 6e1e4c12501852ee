-- The word and its form in memory give each other back, and a field that is replaced leaves the others alone.
use Rattle.std.specs.Prelude.{◌≡◌, ℕ, zero, suc, ◌+◌, ◌-◌, ◌*◌, ◌/◌, ◌%◌, ◌^◌, ◌<◌, ◌≤◌, List, length, slice_index, bit_xor}
use Rattle.std.proofs.Common.{◌⊎◌, ⊎_elim, get_or, refl, sym, ap, ◌∙◌, arith, lit<}
use Rattle.std.proofs.Math.Arith.{mod-mul}
use Rattle.std.proofs.Math.Nat.{pow-succ', div-one, div-div-eq-div-mul, mod-eq_of_lt, mod-mod_of_dvd, dvd-mul_right, mul-le-mul_right}
use Rattle.std.proofs.Math.Nat.{add_assoc, one-le-pow}
use Rattle.std.proofs.lemmas.Nat.{pow_pos, pow-add, xor_lt, shr-shr, shr_high, mod_low, field_of, mod_below, shr_split, mod-pow-add}
use Rattle.std.proofs.lemmas.List.{same_lists, get_or_default}
use Rattle.std.specs.Int.{w128, byte_at, byte_worth, sum_through, bytes_low_first, to_le_bytes, from_le_bytes}
use Rattle.std.specs.Int.Bits.{xor_assoc, xor_self, xor_zero_r}
use Rattle.base.specs.Bits.{field}
use Rattle.cap_format.specs.Word.{with_field, null_word, memory_bytes, word_of_memory}

-- ---- a number and its bytes

-- the bytes of a number, each at its worth, are its low bytes
sum_of_bytes : (n k : ℕ) → sum_through (λ i. byte_worth i (byte_at i n)) k ≡ n % 256 ^ suc k
sum_of_bytes n zero = refl
sum_of_bytes n (suc k) =
    let above : 0 < 256 ^ suc k = one-le-pow (suc k) 256 (lit< tt) in
    let split : n % (256 * 256 ^ suc k) ≡ n / 256 ^ suc k % 256 * 256 ^ suc k + n % 256 ^ suc k = mod-mul n (lit< tt) above in
    let power : n % 256 ^ suc (suc k) ≡ n % (256 * 256 ^ suc k) = ap (λ m. n % m) (pow-succ' 256 (suc k)) in
    omega (arith, sum_of_bytes n k, split, power)

number_and_back : (n : ℕ) → n < 2 ^ 128 → from_le_bytes w128 (to_le_bytes w128 n) ≡ n
number_and_back n h =
    let sum : from_le_bytes w128 (to_le_bytes w128 n) ≡ sum_through (λ i. byte_worth i (byte_at i n)) 15 = refl in
    sum ∙ sum_of_bytes n 15 ∙ mod-eq_of_lt h

-- the number in n bytes from place i, the lowest first
abbrev number_from : ℕ → ℕ → List ℕ → ℕ
number_from i zero bytes = 0
number_from i (suc n) bytes = slice_index bytes i + 256 * number_from (suc i) n bytes

lowest : (x rest : ℕ) → x < 256 → ((x + 256 * rest) % 256 ≡ x) × ((x + 256 * rest) / 256 ≡ rest)
lowest x rest h = (omega arith, omega arith)

number_from-shifted : (k i n : ℕ) (bytes : List ℕ) → ((j : ℕ) → slice_index bytes j < 256)
    → number_from i (k + n) bytes / 256 ^ k ≡ number_from (i + k) n bytes
number_from-shifted zero i n bytes each =
    let places : zero + n ≡ n = omega arith in
    let start : i ≡ i + zero = omega arith in
    div-one (number_from i (zero + n) bytes) ∙ ap (λ m. number_from i m bytes) places ∙ ap (λ j. number_from j n bytes) start
number_from-shifted (suc k) i n bytes each =
    let places : suc k + n ≡ suc (k + n) = omega arith in
    let start : suc i + k ≡ i + suc k = omega arith in
    ap (λ m. number_from i m bytes / 256 ^ suc k) places
    ∙ ap (λ m. number_from i (suc (k + n)) bytes / m) (pow-succ' 256 k)
    ∙ sym (div-div-eq-div-mul (number_from i (suc (k + n)) bytes) 256 (256 ^ k))
    ∙ ap (λ m. m / 256 ^ k) (lowest (slice_index bytes i) (number_from (suc i) (k + n) bytes) (each i)).1
    ∙ number_from-shifted k (suc i) n bytes each
    ∙ ap (λ j. number_from j n bytes) start

byte_at-is : (i n : ℕ) → byte_at i n ≡ n / 256 ^ i % 256
byte_at-is zero n = ap (λ m. m % 256) (sym (div-one n))
byte_at-is (suc i) n = refl

byte_at-number_from : (k n : ℕ) (bytes : List ℕ) → ((j : ℕ) → slice_index bytes j < 256)
    → byte_at k (number_from 0 (k + suc n) bytes) ≡ slice_index bytes k
byte_at-number_from k n bytes each =
    let start : 0 + k ≡ k = omega arith in
    byte_at-is k (number_from 0 (k + suc n) bytes)
    ∙ ap (λ m. m % 256) (number_from-shifted k 0 (suc n) bytes each ∙ ap (λ j. number_from j (suc n) bytes) start)
    ∙ (lowest (slice_index bytes k) (number_from (suc k) n bytes) (each k)).0

get_or-low_first : (i n x k d : ℕ) → k < n → get_or (bytes_low_first i n x) k d ≡ byte_at (i + k) x
get_or-low_first i zero x k d h = absurd (omega arith)
get_or-low_first i (suc n) x zero d h = let start : i ≡ i + zero = omega arith in ap (λ j. byte_at j x) start
get_or-low_first i (suc n) x (suc k) d h = let start : suc i + k ≡ i + suc k = omega arith in get_or-low_first (suc i) n x k d (omega arith)
    ∙ ap (λ j. byte_at j x) start

length-low_first : (i n x : ℕ) → length (bytes_low_first i n x) ≡ n
length-low_first i zero x = refl
length-low_first i (suc n) x = ap suc (length-low_first (suc i) n x)

bytes_and_back : (bytes : List ℕ) → length bytes ≡ 16 → ((j : ℕ) → slice_index bytes j < 256)
    → to_le_bytes w128 (from_le_bytes w128 bytes) ≡ bytes
bytes_and_back bytes size each =
    let whole : from_le_bytes w128 bytes ≡ number_from 0 16 bytes = omega arith in
    ap (to_le_bytes w128) whole
    ∙ same_lists (to_le_bytes w128 (number_from 0 16 bytes)) bytes (length-low_first 0 16 (number_from 0 16 bytes) ∙ sym size) (λ k d h.
    let room : length (bytes_low_first 0 16 (number_from 0 16 bytes)) ≡ 16 = length-low_first 0 16 (number_from 0 16 bytes) in
    let within : k < 16 = omega (arith, h, room) in
    let start : 0 + k ≡ k = omega arith in
    let places : 16 ≡ k + suc (15 - k) = omega arith in
    get_or-low_first 0 16 (number_from 0 16 bytes) k d within
    ∙ ap (λ j. byte_at j (number_from 0 16 bytes)) start
    ∙ ap (λ m. byte_at k (number_from 0 m bytes)) places
    ∙ byte_at-number_from k (15 - k) bytes each
    ∙ get_or_default bytes k 0 d (omega arith))

-- ---- the form in memory

twice : (n : ℕ) → bit_xor (bit_xor n null_word) null_word ≡ n
twice n = xor_assoc n null_word null_word ∙ ap (bit_xor n) (xor_self null_word) ∙ xor_zero_r n

-- a word that goes to memory comes back
pub word_of_memory-memory_bytes : (w : ℕ) → w < 2 ^ 128 → word_of_memory (memory_bytes w) ≡ w
word_of_memory-memory_bytes w h =
    ap (λ n. bit_xor n null_word) (number_and_back (bit_xor w null_word) (xor_lt 128 w null_word h (lit< tt))) ∙ twice w

-- and so do bytes that are read as a word
pub memory_bytes-word_of_memory : (bytes : List ℕ) → length bytes ≡ 16 → ((j : ℕ) → slice_index bytes j < 256)
    → memory_bytes (word_of_memory bytes) ≡ bytes
memory_bytes-word_of_memory bytes size each =
    ap (to_le_bytes w128) (twice (from_le_bytes w128 bytes)) ∙ bytes_and_back bytes size each

-- ---- a field replaced

field-above : (x j n : ℕ) (k m : ℕ) (h v l : ℕ) → k + m ≤ j → v < 2 ^ m → l < 2 ^ k → x ≡ h * 2 ^ (k + m) + (v * 2 ^ k + l)
    → field x j n ≡ h / 2 ^ (j - (k + m)) % 2 ^ n
field-above x j n k m h v l far vs ls e =
    let power : 2 ^ m * 2 ^ k ≡ 2 ^ (k + m) = sym (ap (λ i. 2 ^ i) (let turned : k + m ≡ m + k = omega arith in turned) ∙ pow-add 2 m k) in
    let fits : (v + 1) * 2 ^ k ≤ 2 ^ m * 2 ^ k = mul-le-mul_right (2 ^ k) (omega arith) in
    let expand : (v + 1) * 2 ^ k ≡ v * 2 ^ k + 2 ^ k = grind arith in
    let low : v * 2 ^ k + l < 2 ^ (k + m) = omega (arith, power, fits, expand) in
    let places : k + m + (j - (k + m)) ≡ j = omega arith in
    ap (λ y. field y j n) e
    ∙ ap (λ i. (h * 2 ^ (k + m) + (v * 2 ^ k + l)) / 2 ^ i % 2 ^ n) (sym places)
    ∙ ap (λ y. y % 2 ^ n) (sym (shr-shr (h * 2 ^ (k + m) + (v * 2 ^ k + l)) (k + m) (j - (k + m))))
    ∙ ap (λ y. y / 2 ^ (j - (k + m)) % 2 ^ n) (shr_high h (k + m) (v * 2 ^ k + l) low)

field-below : (x y j n k : ℕ) → j + n ≤ k → x % 2 ^ k ≡ y % 2 ^ k → field x j n ≡ field y j n
field-below x y j n k h same =
    let places : n + j + (k - (n + j)) ≡ k = omega arith in
    let part : (z : ℕ) → z % 2 ^ k % 2 ^ (n + j) ≡ z % 2 ^ (n + j) =
    λ z. ap (λ b. z % b % 2 ^ (n + j)) (ap (λ i. 2 ^ i) (sym places) ∙ pow-add 2 (n + j) (k - (n + j)))
    ∙ mod-mod_of_dvd (2 ^ (n + j)) z (dvd-mul_right (2 ^ (n + j)) (2 ^ (k - (n + j)))) in
    sym (field_of x n j) ∙ ap (λ z. z / 2 ^ j) (sym (part x) ∙ ap (λ z. z % 2 ^ (n + j)) same ∙ part y) ∙ field_of y n j

regrouped : (h v l p q : ℕ) → h * (p * q) + v * q + l ≡ (h * p + v) * q + l
regrouped h v l p q = grind arith

with_field-by_low : (w k m v : ℕ) → with_field w k m v ≡ (w / 2 ^ (k + m) * 2 ^ m + v) * 2 ^ k + w % 2 ^ k
with_field-by_low w k m v =
    let power : 2 ^ (k + m) ≡ 2 ^ m * 2 ^ k = ap (λ n. 2 ^ n) (let turned : k + m ≡ m + k = omega arith in turned) ∙ pow-add 2 m k in
    ap (λ p. w / 2 ^ (k + m) * p + v * 2 ^ k + w % 2 ^ k) power ∙ regrouped (w / 2 ^ (k + m)) v (w % 2 ^ k) (2 ^ m) (2 ^ k)

-- the new field reads as what was put there
pub field-with_field : (w k m v : ℕ) → v < 2 ^ m → field (with_field w k m v) k m ≡ v
field-with_field w k m v h =
    let low : w % 2 ^ k < 2 ^ k = mod_below w (2 ^ k) (pow_pos k) in
    ap (λ n. n / 2 ^ k % 2 ^ m) (with_field-by_low w k m v)
    ∙ ap (λ n. n % 2 ^ m) (shr_high (w / 2 ^ (k + m) * 2 ^ m + v) k (w % 2 ^ k) low)
    ∙ mod_low (w / 2 ^ (k + m)) m v h

parted : (w k m : ℕ) → w ≡ w / 2 ^ (k + m) * 2 ^ (k + m) + (w / 2 ^ k % 2 ^ m * 2 ^ k + w % 2 ^ k)
parted w k m =
    let turned : k + m ≡ m + k = omega arith in
    sym (shr_split w (k + m)) ∙ ap (λ l. w / 2 ^ (k + m) * 2 ^ (k + m) + l) (ap (λ i. w % 2 ^ i) turned ∙ mod-pow-add w m k)

-- and every other field reads as before
pub field-with_field_other : (w k m v : ℕ) → v < 2 ^ m → (j n : ℕ) → (j + n ≤ k) ⊎ (k + m ≤ j)
    → field (with_field w k m v) j n ≡ field w j n
field-with_field_other w k m v h j n far =
    let low : w % 2 ^ k < 2 ^ k = mod_below w (2 ^ k) (pow_pos k) in
    let old : w / 2 ^ k % 2 ^ m < 2 ^ m = mod_below (w / 2 ^ k) (2 ^ m) (pow_pos m) in
    ⊎_elim (λ below.
    let shape : with_field w k m v ≡ (w / 2 ^ (k + m) * 2 ^ m + v) * 2 ^ k + w % 2 ^ k = with_field-by_low w k m v in
    field-below (with_field w k m v) w j n k below (ap (λ x. x % 2 ^ k) shape ∙ mod_low (w / 2 ^ (k + m) * 2 ^ m + v) k (w % 2 ^ k) low))
    (λ above.
    field-above (with_field w k m v) j n k m (w / 2 ^ (k + m)) v (w % 2 ^ k) above h low
    (add_assoc (w / 2 ^ (k + m) * 2 ^ (k + m)) (v * 2 ^ k) (w % 2 ^ k))
    ∙ sym (field-above w j n k m (w / 2 ^ (k + m)) (w / 2 ^ k % 2 ^ m) (w % 2 ^ k) above old low (parted w k m))) far
