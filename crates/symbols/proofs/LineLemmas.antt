-- Lines that are cut off a text, and the digits of an address.
use Rattle.std.proofs.Common.{◌≡◌, ℕ, zero, suc, ◌+◌, ◌<◌, ◌≤◌, Bool, true, false, ◌&&◌, List, [], ◌∷◌, ◌++◌, refl, ap}
use Rattle.std.proofs.Common.{arith, length, length-drop, take, drop}
use Rattle.std.specs.Prelude.{◌==◌, IsTrue}
use Rattle.std.specs.List.{prefix_len}
use Rattle.std.specs.Char.{digit_value}
use Rattle.std.specs.Str.Parse.{AllDigits, digits_value}
use Rattle.std.proofs.lemmas.Bool.Decides.{nat_tests}
use Rattle.std.proofs.lemmas.Int.Digits.{digits_value-lt}
use Rattle.symbols.specs.Reads.{IsCut, line_length}
use Rattle.symbols.specs.Symbols.{lines_of, onto_first, has_address, is_symbol, is_label, is_hexadecimal_digit, name_of, symbols_in}

pub line_cut : (text : List ℕ) → line_length text < length text
    → lines_of text ≡ take (line_length text) text ∷ lines_of (drop (line_length text + 1) text)
line_cut [] h = absurd (omega (arith, h))
line_cut (b ∷ bs) h = elim (b == 10) as (λ t. (b == 10) ≡ t → lines_of (b ∷ bs)
    ≡ take (line_length (b ∷ bs)) (b ∷ bs) ∷ lines_of (drop (line_length (b ∷ bs) + 1) (b ∷ bs))) [
      | true ↦ λ e. rw e refl
      | false ↦ λ e.
          let k : 1 + line_length bs < length (b ∷ bs) = rw e at h in
          let r = line_cut bs (omega (arith, k)) in
          let n : 1 + line_length bs ≡ suc (line_length bs) = omega arith in
          let m : suc (line_length bs) + 1 ≡ suc (line_length bs + 1) = omega arith in
          rw e (rw n (rw m (rw r refl)))
    ] refl

-- so a text that is cut there has the first line before it
pub line_ended : (text line rest : List ℕ) → IsCut text line rest → lines_of text ≡ line ∷ lines_of rest
line_ended text line rest cut = rw (cut.1, cut.2) (line_cut text cut.0)

pub rest_shorter : (text line rest : List ℕ) → IsCut text line rest → length rest < length text
rest_shorter text line rest cut = rw (cut.2, length-drop) (omega (arith, cut.0))

line_whole : (b : ℕ) (bs : List ℕ) → length (b ∷ bs) ≤ line_length (b ∷ bs) → lines_of (b ∷ bs) ≡ (b ∷ bs) ∷ []
line_whole b [] h = elim (b == 10) as (λ t. (b == 10) ≡ t → lines_of (b ∷ []) ≡ (b ∷ []) ∷ []) [
  | true ↦ λ e. let k : 1 ≤ 0 = rw e at h in absurd (omega (arith, k))
  | false ↦ λ e. rw e refl
] refl
line_whole b (c ∷ cs) h = elim (b == 10) as (λ t. (b == 10) ≡ t → lines_of (b ∷ c ∷ cs) ≡ (b ∷ c ∷ cs) ∷ []) [
  | true ↦ λ e. let k : length (b ∷ c ∷ cs) ≤ 0 = rw e at h in absurd (omega (arith, k))
  | false ↦ λ e.
      let k : length (b ∷ c ∷ cs) ≤ 1 + line_length (c ∷ cs) = rw e at h in
      let r = line_whole c cs (omega (arith, k)) in
      rw e (ap (onto_first b) r)
] refl

pub line_whole_of : (text : List ℕ) → 0 < length text → line_length text ≡ length text → lines_of text ≡ text ∷ []
line_whole_of [] some h = absurd (omega (arith, some))
line_whole_of (b ∷ bs) some h = line_whole b bs (omega (arith, h))

pub ruleset cuts = (line_ended, rest_shorter, line_whole_of)

-- hexadecimal digits at the beginning of a text
digits_in_front : (k : ℕ) (text : List ℕ) → k ≤ prefix_len is_hexadecimal_digit text → AllDigits 16 (take k text)
digits_in_front zero text h = tt
digits_in_front (suc k) [] h = absurd (omega (arith, h))
digits_in_front (suc k) (b ∷ bs) h = elim (is_hexadecimal_digit b) as (λ t. is_hexadecimal_digit b ≡ t
    → AllDigits 16 (take (suc k) (b ∷ bs))) [
      | true ↦ λ e.
          let here : digit_value b < 16 = grind (arith, nat_tests) in
          let j : suc k ≤ 1 + prefix_len is_hexadecimal_digit bs = rw e at h in
          (here, digits_in_front k bs (omega (arith, j)))
      | false ↦ λ e. let j : suc k ≤ 0 = rw e at h in absurd (omega (arith, j))
    ] refl

front_length : (k : ℕ) (text : List ℕ) → k ≤ prefix_len is_hexadecimal_digit text → length (take k text) ≡ k
front_length zero text h = refl
front_length (suc k) [] h = absurd (omega (arith, h))
front_length (suc k) (b ∷ bs) h =
    elim (is_hexadecimal_digit b) as (λ t. is_hexadecimal_digit b ≡ t → length (take (suc k) (b ∷ bs)) ≡ suc k) [
      | true ↦ λ e.
          let j : suc k ≤ 1 + prefix_len is_hexadecimal_digit bs = rw e at h in
          ap suc (front_length k bs (omega (arith, j)))
      | false ↦ λ e. let j : suc k ≤ 0 = rw e at h in absurd (omega (arith, j))
    ] refl

-- an address has 16 bytes
pub symbol_front : (line : List ℕ) → IsTrue (has_address line) → length (take 16 line) ≡ 16
unfolding has_address
symbol_front line h =
    let count : prefix_len is_hexadecimal_digit line ≡ 16 = grind (arith, nat_tests) in
    front_length 16 line (omega (arith, count))

-- 16 digits are a number of 64 bits
pub address_fits : (line : List ℕ) → IsTrue (has_address line) → digits_value 16 (take 16 line) < 18446744073709551616
unfolding has_address
address_fits line h =
    let count : prefix_len is_hexadecimal_digit line ≡ 16 = grind (arith, nat_tests) in
    let below = digits_value-lt 16 (take 16 line) (digits_in_front 16 line (omega (arith, count))) in
    rw (front_length 16 line (omega (arith, count))) at below

and_left : (a b : Bool) → (a && b) ≡ true → a ≡ true
and_left true b h = refl
and_left false b h = h

and_right : (a b : Bool) → (a && b) ≡ true → b ≡ true
and_right true b h = h
and_right false true h = refl
and_right false false h = h

-- its name is a label
pub name_is_label : (line : List ℕ) → IsTrue (is_symbol line) → is_label (name_of line) ≡ true
unfolding is_symbol
name_is_label line symbol = and_right _ _ symbol

-- the symbols of a line before those of the others
pub first_symbols : (line : List ℕ) (lines : List (List ℕ)) → symbols_in (line ∷ lines) ≡ symbols_in (line ∷ []) ++ symbols_in lines
first_symbols line lines =
    elim (is_symbol line) as (λ t. is_symbol line ≡ t → symbols_in (line ∷ lines) ≡ symbols_in (line ∷ []) ++ symbols_in lines) [
      | true ↦ λ e. rw e refl
      | false ↦ λ e. rw e refl
    ] refl

pub has_address_of : (line : List ℕ) → IsTrue (is_symbol line) → IsTrue (has_address line)
unfolding is_symbol
has_address_of line h = and_left _ _ h
