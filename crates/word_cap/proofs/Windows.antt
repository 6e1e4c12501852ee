-- The number of the window that holds an address gives the base, and two addresses in windows of one number the same one.
use Rattle.std.proofs.Common.{◌≡◌, ℕ, ◌+◌, ◌-◌, ◌*◌, ◌/◌, ◌%◌, ◌^◌, ◌<◌, ◌≤◌, sym, ap, ◌∙◌, arith}
use Rattle.std.proofs.lemmas.Nat.{pow-add, shr-shr, shr_le}
use Rattle.cap_bounds.specs.Window.{decoded_base}
use Rattle.cap_bounds.specs.RemainderLaws.{mod-apart}
use Rattle.word_cap.specs.Parts.{edge_of, high}
use Rattle.word_cap.proofs.Corrections.{eighths, high-small, block_fits, decoded_base-corrected}

-- the window's number, as it is computed
abbrev pub window_number : ℕ → ℕ → ℕ
window_number mid b = ((mid + 2048) % 2 ^ 64 + (2 ^ 64 - b / 2048 * 2048 % 2 ^ 64)) % 2 ^ 64 / 16384

-- how often that went round
abbrev rounds : ℕ → ℕ → ℕ
rounds mid b = (mid + 2048 + 2 ^ 64 - b / 2048 * 2048) / 2 ^ 64

-- It is the address's block and its correction.
window_number-block : (mid b h1 h0 k : ℕ) → b < 16384 → mid < 2 ^ 64 → k < 8 → mid / 2048 % 8 + 1 + 8 * h0 ≡ k + b / 2048 + 8 * h1
    → window_number mid b + h0 + rounds mid b * 2 ^ 50 ≡ mid / 16384 + h1 + 2 ^ 50
window_number-block mid b h1 h0 k mantissa fits small by = omega arith

window_number-unrounded : (x a h1 h0 b c u w : ℕ) → x + h0 + c * 2 ^ 50 ≡ a + h1 + 2 ^ 50 → w ≡ u * 16384 → h0 * w ≤ 4 * 2 ^ 64
    → (x * 16384 + b) * u % 2 ^ 64 ≡ ((a + h1) * w + b * u + 4 * 2 ^ 64 - h0 * w) % 2 ^ 64
window_number-unrounded x a h1 h0 b c u w by block fits =
    mod-apart ((x * 16384 + b) * u) ((a + h1) * w + b * u + 4 * 2 ^ 64 - h0 * w) (4 + c * u) u (2 ^ 64)
    (omega (arith, ap (λ n. n * u) by, ap (λ n. a * n) block, ap (λ n. h1 * n) block, ap (λ n. h0 * n) block))

-- the base is the number of the window that holds the address, and B, in units
pub window_number-base : (e b address : ℕ) → e ≤ 52 → b < 16384 → address < 2 ^ 64
    → (window_number (address / 2 ^ e) b * 16384 + b) * 2 ^ e % 2 ^ 64 ≡ decoded_base e b address
window_number-base e b address most mantissa fits =
    let mid : ℕ = address / 2 ^ e in
    let h1 : ℕ = high (edge_of b) b in
    let h0 : ℕ = high (edge_of b) (address / 2 ^ e) in
    let same : b / 2048 % 8 ≡ b / 2048 = omega arith in
    let k : ℕ = (address / 2 ^ e / 2048 % 8 + 9 - b / 2048 % 8) % 8 in
    let by = eighths (address / 2 ^ e / 2048 % 8) (b / 2048 % 8) (omega arith) (omega arith) in
    let block : address / 2 ^ (e + 14) ≡ address / 2 ^ e / 16384 = sym (shr-shr address e 14) in
    let small : address / 2 ^ e < 2 ^ 64 = omega (arith, shr_le address e) in
    let number =
    window_number-block (address / 2 ^ e) b (high (edge_of b) b) (high (edge_of b) (address / 2 ^ e)) k mantissa small (omega arith)
    (omega (arith, by)) in
    window_number-unrounded (window_number mid b) (address / 2 ^ (e + 14)) h1 h0 b (rounds mid b) (2 ^ e) (2 ^ (e + 14)) (rw block number)
    (pow-add 2 e 14)
    (block_fits e h0 most (high-small (edge_of b) (address / 2 ^ e)))
    ∙ sym (decoded_base-corrected e b address most mantissa fits)
