-- The geometry of windows over plain numbers: an address space N of M windows, each of eight steps s. A window begins one step
-- before a base rounded down to a step, h is the number of that step within eight, and q is how far the base lies past it.
use Rattle.std.proofs.Common.{◌≡◌, ℕ, ◌+◌, ◌-◌, ◌*◌, ◌/◌, ◌%◌, ◌<◌, ◌≤◌, sym, ap, ◌∙◌, arith}
use Rattle.std.proofs.Math.Nat.{mod-lt, mod-eq_of_lt}
use Rattle.cap_bounds.specs.RemainderLaws.{mod-apart, mod-is, multiples_apart}

-- how far an address lies past the beginning of its window
abbrev pub place_of : ℕ → ℕ → ℕ → ℕ
place_of s h address = (address + s + (8 - h) * s) % (8 * s)

-- the base that a place gives: one step and q past the beginning of the window
abbrev pub base_at : ℕ → ℕ → ℕ → ℕ → ℕ → ℕ
base_at N s q address place = (address + N - place + s + q) % N

-- how far an address lies past the step before the p-th
abbrev pub distance_of : ℕ → ℕ → ℕ → ℕ → ℕ
distance_of N s p address = (address + N + s - p * s) % N

-- h steps and the rest of eight are a window
mul-rest_of_eight : (h s : ℕ) → h ≤ 8 → (8 - h) * s + h * s ≡ 8 * s
mul-rest_of_eight h s small = let e : 8 - h + h ≡ 8 = omega arith in omega (arith, ap (λ n. n * s) e)

-- p steps are whole windows and the steps within one
mul-eights : (p s : ℕ) → p * s ≡ p / 8 * (8 * s) + p % 8 * s
mul-eights p s = let e : p ≡ p / 8 * 8 + p % 8 = omega arith in omega (arith, ap (λ n. n * s) e)

-- a place lies within a window
pub place_of-below : (s h address : ℕ) → 0 < s → place_of s h address < 8 * s
place_of-below s h address positive = mod-lt (address + s + (8 - h) * s) (omega arith)

-- a base q past the p-th step is found again from the distance
pub base_at-distance : (a s p q N : ℕ) → 0 < N → p * s + q < N → base_at N s q a (distance_of N s p a) ≡ p * s + q
base_at-distance a s p q N positive inside =
    let k : ℕ = (a + N + s - p * s) / N in
    let low : distance_of N s p a < N = mod-lt (a + N + s - p * s) positive in
    mod-is (a + N - distance_of N s p a + s + q) (p * s + q) 0 k N inside (omega arith)

-- a place that gives a base q past the p-th step is the distance
pub distance_of-place : (a s p q y N : ℕ) → p * s + q < N → y < N → base_at N s q a y ≡ p * s + q → distance_of N s p a ≡ y
distance_of-place a s p q y N inside small e =
    let k : ℕ = (a + N - y + s + q) / N in
    mod-is (a + N + s - p * s) y 0 k N small (omega arith)

-- the window that begins a place after an address holds the address
pub start-holds_address : (a y N : ℕ) → y < N → (a + N - (a + N - y) % N) % N ≡ y
start-holds_address a y N small =
    let k : ℕ = (a + N - y) / N in
    let low : (a + N - y) % N < N = mod-lt (a + N - y) (omega arith) in
    mod-is (a + N - (a + N - y) % N) y 0 k N small (omega arith)

-- it holds the base that the place gives, one step and q past its beginning
pub start-holds_base : (a y s q N : ℕ) → y < N → s + q < N → (base_at N s q a y + N - (a + N - y) % N) % N ≡ s + q
start-holds_base a y s q N small past =
    let k : ℕ = (a + N - y) / N in
    let m : ℕ = (a + N - y + s + q) / N in
    let low : (a + N - y) % N < N = mod-lt (a + N - y) (omega arith) in
    mod-is (base_at N s q a y + N - (a + N - y) % N) (s + q) m (k + 1) N past (omega arith)

module _ (s M N : ℕ) (space : N ≡ M * (8 * s)) where
  -- an address within a window after the step before the p-th has that distance as its place
  pub place_of-near : (a p : ℕ) → p * s ≤ N → distance_of N s p a < 8 * s → place_of s (p % 8) a ≡ distance_of N s p a
  place_of-near a p inside near =
      let k : ℕ = (a + N + s - p * s) / N in
      mod-is (a + s + (8 - p % 8) * s) (distance_of N s p a) M (p / 8 + 1 + k * M) (8 * s) near
      (omega (arith, ap (λ n. k * n) space, mul-eights p s, mul-rest_of_eight (p % 8) s (omega arith)))

  -- the base that an address's own place gives lies q past a step
  base_at-mod : (a h q : ℕ) → h ≤ 8 → q < s → 8 * s ≤ N → base_at N s q a (place_of s h a) % s ≡ q
  base_at-mod a h q eighth small fits =
      let y : ℕ = place_of s h a in
      let j : ℕ = (a + s + (8 - h) * s) / (8 * s) in
      let k : ℕ = (a + N - y + s + q) / N in
      let low : y < 8 * s = place_of-below s h a (omega arith) in
      mod-is (base_at N s q a y) q (k * M * 8 + (8 - h)) (M * 8 + j * 8) s small (omega (arith, ap (λ n. k * n) space))

  -- from the base that its own place gives, an address has that place as its distance
  pub distance_of-own_base : (a h q : ℕ) → h ≤ 8 → q < s → 8 * s ≤ N
      → distance_of N s (base_at N s q a (place_of s h a) / s) a ≡ place_of s h a
  distance_of-own_base a h q eighth small fits =
      let y : ℕ = place_of s h a in
      let base : ℕ = base_at N s q a y in
      let k : ℕ = (a + N - y + s + q) / N in
      let low : y < 8 * s = place_of-below s h a (omega arith) in
      let rest : base % s ≡ q = base_at-mod a h q eighth small fits in
      mod-is (a + N + s - base / s * s) y 0 k N (omega arith) (omega arith)

  -- an address in a window that begins at `start` has its distance from there as its place
  place_of-from_start : (a h start : ℕ) → h ≤ 8 → start < N → (start + s) % (8 * s) ≡ h * s % (8 * s) → (a + N - start) % N < 8 * s
      → place_of s h a ≡ (a + N - start) % N
  place_of-from_start a h start eighth inside begins near =
      let k : ℕ = (a + N - start) / N in
      let e = multiples_apart (start + s) (h * s) (8 * s) begins in
      let i : ℕ = h * s / (8 * s) in
      let j : ℕ = (start + s) / (8 * s) in
      mod-is (a + s + (8 - h) * s) ((a + N - start) % N) (M + i) (k * M + 1 + j) (8 * s) near
      (omega (arith, ap (λ n. k * n) space, mul-rest_of_eight h s eighth))

  -- a congruent base in that window lies one step and q past its beginning
  base-from_start : (h q base start : ℕ) → h ≤ 8 → q < s → start < N → (start + s) % (8 * s) ≡ h * s % (8 * s)
      → base % (8 * s) ≡ (h * s + q) % (8 * s) → (base + N - start) % N < 8 * s → (base + N - start) % N ≡ s + q
  base-from_start h q base start eighth small inside begins congruent near =
      let k : ℕ = (base + N - start) / N in
      let i : ℕ = h * s / (8 * s) in
      let j : ℕ = (start + s) / (8 * s) in
      let m : ℕ = (h * s + q) / (8 * s) in
      let n : ℕ = base / (8 * s) in
      let window = multiples_apart (start + s) (h * s) (8 * s) begins in
      let same = multiples_apart base (h * s + q) (8 * s) congruent in
      sym (mod-eq_of_lt near)
      ∙ mod-is ((base + N - start) % N) (s + q) (k * M + m + j) (M + n + i) (8 * s) (omega arith) (omega (arith, ap (λ n. k * n) space))

  -- a congruent base in a window that holds the address is the one that the address's place gives
  pub base_at-unique : (a h q base start : ℕ) → h ≤ 8 → q < s → base < N → start < N → (start + s) % (8 * s) ≡ h * s % (8 * s)
      → base % (8 * s) ≡ (h * s + q) % (8 * s) → (a + N - start) % N < 8 * s → (base + N - start) % N < 8 * s
      → base_at N s q a (place_of s h a) ≡ base
  base_at-unique a h q base start eighth small fits inside begins congruent holds_address holds_base =
      let place = place_of-from_start a h start eighth inside begins holds_address in
      let past = base-from_start h q base start eighth small inside begins congruent holds_base in
      let k : ℕ = (a + N - start) / N in
      let m : ℕ = (base + N - start) / N in
      mod-is (a + N - place_of s h a + s + q) base m (k + 1) N fits (omega arith)

  -- the window that begins a place after its address begins one step before a multiple of eight steps and h
  pub start-mod : (a h : ℕ) → h ≤ 8 → 0 < s → 8 * s ≤ N → ((a + N - place_of s h a) % N + s) % (8 * s) ≡ h * s % (8 * s)
  start-mod a h eighth positive fits =
      let y : ℕ = place_of s h a in
      let j : ℕ = (a + s + (8 - h) * s) / (8 * s) in
      let k : ℕ = (a + N - y) / N in
      let low : y < 8 * s = place_of-below s h a positive in
      mod-apart ((a + N - y) % N + s) (h * s) (k * M + 1) (M + j) (8 * s)
      (omega (arith, ap (λ n. k * n) space, mul-rest_of_eight h s eighth))

  -- the base that a place gives is congruent to h steps and q
  pub base_at-congruent : (a h q : ℕ) → h ≤ 8 → 0 < s → 8 * s ≤ N → base_at N s q a (place_of s h a) % (8 * s) ≡ (h * s + q) % (8 * s)
  base_at-congruent a h q eighth positive fits =
      let y : ℕ = place_of s h a in
      let j : ℕ = (a + s + (8 - h) * s) / (8 * s) in
      let k : ℕ = (a + N - y + s + q) / N in
      let low : y < 8 * s = place_of-below s h a positive in
      mod-apart (base_at N s q a y) (h * s + q) (k * M + 1) (M + j) (8 * s)
      (omega (arith, ap (λ n. k * n) space, mul-rest_of_eight h s eighth))
