-- What is written as lines is read as the same symbols.
use Rattle.std.proofs.Common.{◌≡◌, ℕ, zero, suc, ◌+◌, ◌/◌, ◌%◌, ◌^◌, ◌<◌, Bool, true, false, not, ◌&&◌, List, [], ◌∷◌, ◌++◌, refl, ap}
use Rattle.std.proofs.Common.{sym, ◌∙◌}
use Rattle.std.proofs.Common.{append_assoc, arith, length, take, drop, None, length-append}
use Rattle.std.specs.Prelude.{◌==◌, slice_index}
use Rattle.std.specs.List.{prefix_len, AllByRecursion}
use Rattle.std.specs.Char.{digit_value}
use Rattle.std.specs.Fmt.{digit_glyph}
use Rattle.std.specs.Str.Parse.{digits_value}
use Rattle.std.proofs.lemmas.Bool.Decides.{nat_tests}
use Rattle.std.proofs.lemmas.Int.Digits.{digits_value_push}
use Rattle.asm_lines.specs.Text.{begins_name, continues_name, is_name}
use Rattle.texts.specs.Hex.{hex_of}
use Rattle.symbols.specs.Symbols.{Symbol, HasLine, symbol_line, symbol_of, symbols_in, symbols_of, table_text}
use Rattle.symbols.specs.Symbols.{faulty_from, faulty_line, has_address, has_letter, is_hexadecimal_digit, is_label, is_line}
use Rattle.symbols.specs.Symbols.{is_symbol, lines_of}
use Rattle.symbols.specs.Symbols.{name_of}

-- each byte passes a test
abbrev every : (ℕ → Bool) → List ℕ → Bool
every p [] = true
every p (b ∷ bs) = p b && every p bs

every-append : (p : ℕ → Bool) (xs ys : List ℕ) → every p xs ≡ true → every p ys ≡ true → every p (xs ++ ys) ≡ true
every-append p [] ys h k = k
every-append p (x ∷ xs) ys h k =
    let a : p x ≡ true = grind (arith, nat_tests) in
    let r : every p xs ≡ true = grind (arith, nat_tests) in
    let s = every-append p xs ys r k in
    rw (a, s)

every_weaker : (p q : ℕ → Bool) (xs : List ℕ) → ((b : ℕ) → p b ≡ true → q b ≡ true) → every p xs ≡ true → every q xs ≡ true
every_weaker p q [] f h = refl
every_weaker p q (x ∷ xs) f h =
    let a : p x ≡ true = grind (arith, nat_tests) in
    let r : every p xs ≡ true = grind (arith, nat_tests) in
    let s = every_weaker p q xs f r in
    let t = f x a in
    rw (t, s)

prefix_stop : (p : ℕ → Bool) (xs : List ℕ) (y : ℕ) (ys : List ℕ) → every p xs ≡ true → p y ≡ false
    → prefix_len p (xs ++ y ∷ ys) ≡ length xs
prefix_stop p [] y ys h n = rw n refl
prefix_stop p (x ∷ xs) y ys h n =
    let a : p x ≡ true = grind (arith, nat_tests) in
    let r : every p xs ≡ true = grind (arith, nat_tests) in
    let s = prefix_stop p xs y ys r n in
    rw (a, s) (omega arith)

whole_every : (p : ℕ → Bool) (xs : List ℕ) → prefix_len p xs ≡ length xs → every p xs ≡ true
whole_every p [] h = refl
whole_every p (x ∷ xs) h = elim (p x) as (λ t. p x ≡ t → every p (x ∷ xs) ≡ true) [
  | true ↦ λ e.
      let k : 1 + prefix_len p xs ≡ length (x ∷ xs) = rw e at h in
      let r = whole_every p xs (omega (arith, k)) in
      rw (e, r) refl
  | false ↦ λ e. let k : 0 ≡ length (x ∷ xs) = rw e at h in absurd (omega (arith, k))
] refl

take_front : (xs ys : List ℕ) → take (length xs) (xs ++ ys) ≡ xs
take_front [] ys = refl
take_front (x ∷ xs) ys = ap (λ l. x ∷ l) (take_front xs ys)

drop_behind : (xs : List ℕ) (y : ℕ) (ys : List ℕ) → drop (suc (length xs)) (xs ++ y ∷ ys) ≡ ys
drop_behind [] y ys = refl
drop_behind (x ∷ xs) y ys = drop_behind xs y ys

at_seam : (xs : List ℕ) (y : ℕ) (ys : List ℕ) → slice_index (xs ++ y ∷ ys) (length xs) ≡ y
at_seam [] y ys = refl
at_seam (x ∷ xs) y ys = at_seam xs y ys

-- ---- digits

glyph_value : (d : ℕ) → d < 16 → digit_value (digit_glyph false d) ≡ d
glyph_value d h = grind (arith, nat_tests)

glyph_digit : (d : ℕ) → d < 16 → is_hexadecimal_digit (digit_glyph false d) ≡ true
glyph_digit d h = let e = glyph_value d h in grind (arith, nat_tests)

digits_every : (k n : ℕ) → every is_hexadecimal_digit (hex_of k n) ≡ true
unfolding hex_of
digits_every zero n = refl
digits_every (suc k) n =
    every-append is_hexadecimal_digit (hex_of k (n / 16)) (digit_glyph false (n % 16) ∷ []) (digits_every k (n / 16))
    (let e = glyph_digit (n % 16) (omega arith) in rw e refl)

digits_length : (k n : ℕ) → length (hex_of k n) ≡ k
unfolding hex_of
digits_length zero n = refl
digits_length (suc k) n = omega (arith, length-append (hex_of k (n / 16)) (digit_glyph false (n % 16) ∷ []), digits_length k (n / 16))

digits_number : (k n : ℕ) → n < 16 ^ k → digits_value 16 (hex_of k n) ≡ n
unfolding hex_of
digits_number zero n h = omega arith
digits_number (suc k) n h =
    let front = digits_number k (n / 16) (omega arith) in
    let last = glyph_value (n % 16) (omega arith) in
    let both = digits_value_push 16 (hex_of k (n / 16)) (digit_glyph false (n % 16)) in
    omega (arith, front, last, both)

-- ---- lines

abbrev inside : ℕ → Bool
inside b = not (b == 10)

line_at : (line rest : List ℕ) → every inside line ≡ true → lines_of (line ++ 10 ∷ rest) ≡ line ∷ lines_of rest
line_at [] rest h = refl
line_at (b ∷ bs) rest h =
    let a : (b == 10) ≡ false = grind (arith, nat_tests) in
    let r : every inside bs ≡ true = grind (arith, nat_tests) in
    let s = line_at bs rest r in
    rw (a, s) refl

digit_inside : (b : ℕ) → is_hexadecimal_digit b ≡ true → inside b ≡ true
digit_inside b h = grind (arith, nat_tests)

name_inside : (b : ℕ) → continues_name b ≡ true → inside b ≡ true
name_inside b h = grind (arith, nat_tests)

begins_continues : (b : ℕ) → begins_name b ≡ true → continues_name b ≡ true
begins_continues b h = rw h refl

is_name_every : (name : List ℕ) → is_name name ≡ true → every continues_name name ≡ true
is_name_every [] h = refl
is_name_every (b ∷ bs) h =
    let first : begins_name b ≡ true = grind (arith, nat_tests) in
    let count : prefix_len continues_name bs ≡ length bs = grind (arith, nat_tests) in
    let here = begins_continues b first in
    let rest = whole_every continues_name bs count in
    rw (here, rest) refl

and_left : (a b : Bool) → (a && b) ≡ true → a ≡ true
and_left true b h = refl
and_left false b h = h

and_right : (a b : Bool) → (a && b) ≡ true → b ≡ true
and_right true b h = h
and_right false true h = refl
and_right false false h = h

label_inside : (name : List ℕ) → is_label name ≡ true → every inside name ≡ true
unfolding is_label
label_inside name h = every_weaker continues_name inside name name_inside (is_name_every name (and_left _ _ h))

-- a symbol's line without its line feed
abbrev written_line : Symbol → List ℕ
written_line s = hex_of 16 s.address ++ 32 ∷ s.name

at_second : (xs : List ℕ) (y : ℕ) (ys : List ℕ) → slice_index (xs ++ y ∷ ys) (suc (suc (length xs))) ≡ slice_index ys 1
at_second [] y ys = refl
at_second (x ∷ xs) y ys = at_second xs y ys

name_solid : (b : ℕ) → continues_name b ≡ true → (b == 32) ≡ false
name_solid b h = grind (arith, nat_tests)

-- a name has no blank in second place
second_solid : (name : List ℕ) → every continues_name name ≡ true → (slice_index name 1 == 32) ≡ false
second_solid [] h = refl
second_solid (a ∷ []) h = refl
second_solid (a ∷ b ∷ bs) h =
    let rest = and_right _ _ h in
    name_solid b (and_left _ _ rest)

no_letter : (s : Symbol) → HasLine s → has_letter (written_line s) ≡ false
unfolding has_letter is_label
no_letter s h =
    let n = digits_length 16 s.address in
    let at = rw n at (at_second (hex_of 16 s.address) 32 s.name) in
    rw at (second_solid s.name (is_name_every s.name (and_left _ _ h.name)))

line_is : (s : Symbol) → HasLine s → is_symbol (written_line s) ≡ true
unfolding is_symbol has_address name_of
line_is s h =
    let n = digits_length 16 s.address in
    let count = prefix_stop is_hexadecimal_digit (hex_of 16 s.address) 32 s.name (digits_every 16 s.address) refl ∙ n in
    let blank = rw n at (at_seam (hex_of 16 s.address) 32 s.name) in
    let letter = no_letter s h in
    let name = rw n at (drop_behind (hex_of 16 s.address) 32 s.name) in
    rw (count, blank, letter, name, h.name) refl

line_says : (s : Symbol) → HasLine s → symbol_of (written_line s) ≡ s
unfolding symbol_of name_of
line_says s h =
    let n = digits_length 16 s.address in
    let front = rw n at (take_front (hex_of 16 s.address) (32 ∷ s.name)) in
    let name = rw n at (drop_behind (hex_of 16 s.address) 32 s.name) in
    let letter = no_letter s h in
    let value = digits_number 16 s.address h.address in
    rw (front, letter, name, value) (ap (λ is_line. record { address = s.address; name = s.name; is_line = is_line }) (sym h.label))

line_inside : (s : Symbol) → HasLine s → every inside (written_line s) ≡ true
line_inside s h =
    let digits = every_weaker is_hexadecimal_digit inside (hex_of 16 s.address) digit_inside (digits_every 16 s.address) in
    every-append inside (hex_of 16 s.address) (32 ∷ s.name) digits (label_inside s.name h.name)

written_lines : (s : Symbol) (rest : List ℕ) → HasLine s → lines_of (symbol_line s ++ rest) ≡ written_line s ∷ lines_of rest
unfolding hex_of
written_lines s rest h =
    let hex = hex_of 16 s.address in
    let whole : symbol_line s ++ rest ≡ written_line s ++ 10 ∷ rest =
    append_assoc hex (32 ∷ (s.name ++ 10 ∷ [])) rest ∙ ap (λ t. hex ++ 32 ∷ t) (append_assoc s.name (10 ∷ []) rest)
    ∙ sym (append_assoc hex (32 ∷ s.name) (10 ∷ rest)) in
    ap lines_of whole ∙ line_at (written_line s) rest (line_inside s h)

pub written_symbols : (symbols : List Symbol) → AllByRecursion HasLine symbols → symbols_of (table_text symbols) ≡ symbols
written_symbols [] h = refl
written_symbols (s ∷ ss) h =
    let line = line_is s h.0 in
    ap symbols_in (written_lines s (table_text ss) h.0)
    ∙ rw line (ap (λ x. x ∷ symbols_of (table_text ss)) (line_says s h.0) ∙ ap (λ xs. s ∷ xs) (written_symbols ss h.1))

written_from : (number : ℕ) (symbols : List Symbol) → AllByRecursion HasLine symbols
    → faulty_from number (lines_of (table_text symbols)) ≡ None
unfolding is_line
written_from number [] h = refl
written_from number (s ∷ ss) h =
    let line = line_is s h.0 in
    ap (faulty_from number) (written_lines s (table_text ss) h.0) ∙ rw line (written_from (number + 1) ss h.1)

pub written_correct : (symbols : List Symbol) → AllByRecursion HasLine symbols → faulty_line (table_text symbols) ≡ None
written_correct symbols h = written_from 1 symbols h
