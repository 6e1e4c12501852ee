-- The lines of bytes and of words are the first line and those after it.
use Rattle.std.proofs.Common.{◌≡◌, ℕ, zero, suc, ◌+◌, ◌-◌, ◌<◌, ◌≤◌, Bool, List, ◌++◌, length, take, drop, refl, ap, sym, ◌∙◌}
use Rattle.std.proofs.Common.{append_assoc, arith}
use Rattle.std.specs.Prelude.{◌==◌, false}
use Rattle.std.proofs.lemmas.Bool.Decides.{nat_tests}
use Rattle.tagged_memory.specs.Memory.{Memory, number_at}
use Rattle.explain.specs.WordLine.{labelled_word}
use Rattle.symbols.specs.Symbols.{Symbol}
use Rattle.debugger.specs.Reply.{byte_line, byte_lines, word_lines}

less_one : (n : ℕ) → suc n - 1 ≡ n
less_one n = omega arith

not_none : (n : ℕ) → 0 < n → (n == 0) ≡ false
not_none n h = grind (arith, nat_tests)

byte_step : (n address : ℕ) (bytes : List ℕ) → 0 < length bytes → length bytes ≤ n
    → byte_lines n address bytes ≡ byte_line address (take 16 bytes) ++ byte_lines (n - 1) (address + 16) (drop 16 bytes)
byte_step zero address bytes some most = absurd (omega arith)
byte_step (suc n) address bytes some most = rw (not_none (length bytes) some, less_one n) refl

word_step : (symbols : List Symbol) (mode : Bool) (m : Memory) (n address : ℕ) → 0 < n
    → word_lines symbols mode m n address
    ≡ labelled_word symbols mode address (number_at m address 4) ++ word_lines symbols mode m (n - 1) (address + 4)
word_step symbols mode m zero address some = absurd (omega arith)
word_step symbols mode m (suc n) address some = rw (less_one n) refl

-- a text with the first line, and then the others
joined : (old mid new one others all : List ℕ) → all ≡ one ++ others → mid ≡ old ++ one → new ≡ mid ++ others → new ≡ old ++ all
joined old mid new one others all whole first rest =
    rest ∙ ap (λ text. text ++ others) first ∙ append_assoc old one others ∙ ap (λ lines. old ++ lines) (sym whole)

pub byte_lines_from : (n address : ℕ) (bytes line rest old mid new : List ℕ) → 0 < length bytes → length bytes ≤ n
    → line ≡ take 16 bytes → rest ≡ drop 16 bytes
    → mid ≡ old ++ byte_line address line → new ≡ mid ++ byte_lines (n - 1) (address + 16) rest
    → new ≡ old ++ byte_lines n address bytes
byte_lines_from n address bytes line rest old mid new some most first others one more =
    joined old mid new (byte_line address (take 16 bytes)) (byte_lines (n - 1) (address + 16) (drop 16 bytes)) (byte_lines n address bytes)
    (byte_step n address bytes some most)
    (one ∙ ap (λ bs. old ++ byte_line address bs) first) (more ∙ ap (λ bs. mid ++ byte_lines (n - 1) (address + 16) bs) others)

pub word_lines_from : (symbols : List Symbol) (mode : Bool) (m : Memory) (n address word : ℕ) (old mid new : List ℕ)
    → 0 < n → word ≡ number_at m address 4
    → mid ≡ old ++ labelled_word symbols mode address word → new ≡ mid ++ word_lines symbols mode m (n - 1) (address + 4)
    → new ≡ old ++ word_lines symbols mode m n address
word_lines_from symbols mode m n address word old mid new some is one more =
    joined old mid new (labelled_word symbols mode address (number_at m address 4)) (word_lines symbols mode m (n - 1) (address + 4))
    (word_lines symbols mode m n address)
    (word_step symbols mode m n address some) (one ∙ ap (λ w. old ++ labelled_word symbols mode address w) is) more
