-- Texts put together and cut again: what is cut at a byte that the parts have not gives the parts back.
use Rattle.std.proofs.Common.{◌≡◌, ℕ, zero, suc, ◌+◌, ◌-◌, ◌<◌, Bool, true, false, not, ◌&&◌, cond, List, [], ◌∷◌, ◌++◌, map, refl, ap, ◌∙◌}
use Rattle.std.proofs.Common.{arith, length, take, drop, get_or, length-append}
use Rattle.std.specs.Prelude.{◌==◌, nat_lt}
use Rattle.std.specs.List.{prefix_len, before_first, after_first, slice_split}
use Rattle.std.proofs.lemmas.Bool.Decides.{nat_tests}
use Rattle.std.proofs.lemmas.List.Sums.{suffix_len_is}
use Rattle.std.proofs.lemmas.List.{get_or-append_right}
use Rattle.asm_lines.specs.Text.{is_blank, trimmed, trimmed_start, trimmed_end, pieces_of}

-- each byte passes a test
abbrev pub every : (ℕ → Bool) → List ℕ → Bool
every p [] = true
every p (b ∷ bs) = p b && every p bs

pub every-append : (p : ℕ → Bool) (xs ys : List ℕ) → every p xs ≡ true → every p ys ≡ true → every p (xs ++ ys) ≡ true
every-append p [] ys h k = k
every-append p (x ∷ xs) ys h k =
    let a : p x ≡ true = grind (arith, nat_tests) in
    let r : every p xs ≡ true = grind (arith, nat_tests) in
    let s = every-append p xs ys r k in
    rw (a, s)

pub every_weaker : (p q : ℕ → Bool) (xs : List ℕ) → ((b : ℕ) → p b ≡ true → q b ≡ true) → every p xs ≡ true → every q xs ≡ true
every_weaker p q [] f h = refl
every_weaker p q (x ∷ xs) f h =
    let a : p x ≡ true = grind (arith, nat_tests) in
    let r : every p xs ≡ true = grind (arith, nat_tests) in
    let s = every_weaker p q xs f r in
    let t = f x a in
    rw (t, s)

pub every_at : (p : ℕ → Bool) (xs : List ℕ) (k d : ℕ) → every p xs ≡ true → k < length xs → p (get_or xs k d) ≡ true
every_at p [] k d h l = absurd (omega arith)
every_at p (x ∷ xs) zero d h l = grind (arith, nat_tests)
every_at p (x ∷ xs) (suc k) d h l = every_at p xs k d (grind (arith, nat_tests)) (omega arith)

pub prefix_every : (p : ℕ → Bool) (xs : List ℕ) → every p xs ≡ true → prefix_len p xs ≡ length xs
prefix_every p [] h = refl
prefix_every p (x ∷ xs) h =
    let a : p x ≡ true = grind (arith, nat_tests) in
    let r : every p xs ≡ true = grind (arith, nat_tests) in
    let s = prefix_every p xs r in
    rw (a, s) (omega arith)

pub prefix_stop : (p : ℕ → Bool) (xs : List ℕ) (y : ℕ) (ys : List ℕ) → every p xs ≡ true → p y ≡ false
    → prefix_len p (xs ++ y ∷ ys) ≡ length xs
prefix_stop p [] y ys h n = rw n refl
prefix_stop p (x ∷ xs) y ys h n =
    let a : p x ≡ true = grind (arith, nat_tests) in
    let r : every p xs ≡ true = grind (arith, nat_tests) in
    let s = prefix_stop p xs y ys r n in
    rw (a, s) (omega arith)

pub take_front : (xs ys : List ℕ) → take (length xs) (xs ++ ys) ≡ xs
take_front [] ys = refl
take_front (x ∷ xs) ys = ap (λ l. x ∷ l) (take_front xs ys)

pub drop_front : (xs ys : List ℕ) → drop (length xs) (xs ++ ys) ≡ ys
drop_front [] ys = refl
drop_front (x ∷ xs) ys = drop_front xs ys

pub drop_front_one : (xs : List ℕ) (y : ℕ) (ys : List ℕ) → drop (length xs + 1) (xs ++ y ∷ ys) ≡ ys
drop_front_one [] y ys = refl
drop_front_one (x ∷ xs) y ys =
    let e : suc (length xs) + 1 ≡ suc (length xs + 1) = omega arith in
    ap (λ j. drop j (x ∷ (xs ++ y ∷ ys))) e ∙ drop_front_one xs y ys

pub take_whole : (xs : List ℕ) → take (length xs) xs ≡ xs
take_whole [] = refl
take_whole (x ∷ xs) = ap (λ l. x ∷ l) (take_whole xs)

pub drop_whole : (xs : List ℕ) → drop (length xs + 1) xs ≡ []
drop_whole [] = refl
drop_whole (x ∷ xs) =
    let e : suc (length xs) + 1 ≡ suc (length xs + 1) = omega arith in
    ap (λ j. drop j (x ∷ xs)) e ∙ drop_whole xs

-- what stands before the first byte that passes, and after it
pub before_stop : (p : ℕ → Bool) (xs : List ℕ) (y : ℕ) (ys : List ℕ) → every (λ b. not (p b)) xs ≡ true → p y ≡ true
    → before_first p (xs ++ y ∷ ys) ≡ xs
before_stop p xs y ys h n =
    let k = prefix_stop (λ b. not (p b)) xs y ys h (ap not n) in
    ap (λ j. take j (xs ++ y ∷ ys)) k ∙ take_front xs (y ∷ ys)

pub after_stop : (p : ℕ → Bool) (xs : List ℕ) (y : ℕ) (ys : List ℕ) → every (λ b. not (p b)) xs ≡ true → p y ≡ true
    → after_first p (xs ++ y ∷ ys) ≡ ys
after_stop p xs y ys h n =
    let k = prefix_stop (λ b. not (p b)) xs y ys h (ap not n) in
    ap (λ j. drop (j + 1) (xs ++ y ∷ ys)) k ∙ drop_front_one xs y ys

pub before_none : (p : ℕ → Bool) (xs : List ℕ) → every (λ b. not (p b)) xs ≡ true → before_first p xs ≡ xs
before_none p xs h = ap (λ j. take j xs) (prefix_every (λ b. not (p b)) xs h) ∙ take_whole xs

pub after_none : (p : ℕ → Bool) (xs : List ℕ) → every (λ b. not (p b)) xs ≡ true → after_first p xs ≡ []
after_none p xs h = ap (λ j. drop (j + 1) xs) (prefix_every (λ b. not (p b)) xs h) ∙ drop_whole xs

split_none : (p : ℕ → Bool) (xs : List ℕ) → every (λ b. not (p b)) xs ≡ true → slice_split p xs ≡ xs ∷ []
split_none p [] h = refl
split_none p (x ∷ xs) h =
    let a : p x ≡ false = grind (arith, nat_tests) in
    let r : every (λ b. not (p b)) xs ≡ true = grind (arith, nat_tests) in
    rw (a, split_none p xs r)

split_stop : (p : ℕ → Bool) (xs : List ℕ) (y : ℕ) (ys : List ℕ) → every (λ b. not (p b)) xs ≡ true → p y ≡ true
    → slice_split p (xs ++ y ∷ ys) ≡ xs ∷ slice_split p ys
split_stop p [] y ys h n = rw n
split_stop p (x ∷ xs) y ys h n =
    let a : p x ≡ false = grind (arith, nat_tests) in
    let r : every (λ b. not (p b)) xs ≡ true = grind (arith, nat_tests) in
    rw (a, split_stop p xs y ys r n)

-- the last byte of a text
abbrev pub last : List ℕ → ℕ
last xs = get_or xs (length xs - 1) 0

pub last-append : (xs ys : List ℕ) → 0 < length ys → last (xs ++ ys) ≡ last ys
last-append xs ys some =
    let n = length-append xs ys in
    get_or-append_right xs ys (length xs) (length (xs ++ ys) - 1) 0 refl (omega arith) ∙ ap (λ j. get_or ys j 0) (omega arith)

-- a text that begins and ends with no white space is itself without white space around it
pub trimmed_end_back : (xs : List ℕ) → is_blank (last xs) ≡ false → trimmed_end xs ≡ xs
trimmed_end_back xs h =
    let none = suffix_len_is is_blank xs (length xs) 0 (omega arith) (λ k a b. absurd (omega arith)) (λ _. h) in
    ap (λ j. take j xs) (omega (arith, none)) ∙ take_whole xs

pub trimmed_start_back : (b : ℕ) (bs : List ℕ) → is_blank b ≡ false → trimmed_start (b ∷ bs) ≡ b ∷ bs
trimmed_start_back b bs h = ap (λ t. drop (cond t (1 + prefix_len is_blank bs) 0) (b ∷ bs)) h

-- a byte of an operand: it is neither foreign, white space, a comma, a colon, a number sign nor a quote
abbrev pub is_plain : ℕ → Bool
is_plain b = nat_lt 32 b && (nat_lt b 127 && (not (b == 34) && (not (b == 35) && (not (b == 44) && not (b == 58)))))

-- a text of one such byte or more
pub record IsPlain (text : List ℕ) : Type 0 where
  pub some : 0 < length text
  pub bytes : every is_plain text ≡ true

pub plain_blank : (b : ℕ) → is_plain b ≡ true → is_blank b ≡ false
plain_blank b h = grind (arith, nat_tests)

pub trimmed_back : (text : List ℕ) → IsPlain text → trimmed text ≡ text
trimmed_back [] h = absurd (omega (arith, h.some))
trimmed_back (b ∷ bs) h =
    let first = plain_blank b (every_at is_plain (b ∷ bs) 0 0 h.bytes h.some) in
    let end = plain_blank (last (b ∷ bs)) (every_at is_plain (b ∷ bs) (length (b ∷ bs) - 1) 0 h.bytes (omega arith)) in
    ap trimmed_end (trimmed_start_back b bs first) ∙ trimmed_end_back (b ∷ bs) end

pub append_nil : (xs : List ℕ) → xs ++ [] ≡ xs
append_nil [] = refl
append_nil (x ∷ xs) = ap (λ l. x ∷ l) (append_nil xs)

-- operands after the first, each after a comma and a space
abbrev pub joined : List (List ℕ) → List ℕ
joined [] = []
joined (t ∷ ts) = 44 ∷ 32 ∷ (t ++ joined ts)

abbrev pub ArePlain : List (List ℕ) → Type 0
ArePlain [] = Unit {0}
ArePlain (t ∷ ts) = IsPlain t × ArePlain ts

no_comma : (text : List ℕ) → every is_plain text ≡ true → every (λ b. not (b == 44)) text ≡ true
no_comma text h = every_weaker is_plain (λ b. not (b == 44)) text (λ b k. grind (arith, nat_tests)) h

split_joined : (t : List ℕ) (ts : List (List ℕ)) → every (λ b. not (b == 44)) t ≡ true → ArePlain ts
    → slice_split (λ b. b == 44) (t ++ joined ts) ≡ t ∷ map (λ u. 32 ∷ u) ts
split_joined t [] h a = ap (slice_split (λ b. b == 44)) (append_nil t) ∙ split_none (λ b. b == 44) t h
split_joined t (u ∷ us) h a =
    split_stop (λ b. b == 44) t 44 (32 ∷ (u ++ joined us)) h refl ∙ ap (λ l. t ∷ l) (split_joined (32 ∷ u) us (no_comma u a.0.bytes) a.1)

trimmed_space : (text : List ℕ) → IsPlain text → trimmed (32 ∷ text) ≡ text
trimmed_space [] h = absurd (omega (arith, h.some))
trimmed_space (b ∷ bs) h =
    let first = plain_blank b (every_at is_plain (b ∷ bs) 0 0 h.bytes h.some) in
    let end = plain_blank (last (b ∷ bs)) (every_at is_plain (b ∷ bs) (length (b ∷ bs) - 1) 0 h.bytes (omega arith)) in
    ap (λ t. trimmed_end (drop (1 + cond t (1 + prefix_len is_blank bs) 0) (32 ∷ b ∷ bs))) first ∙ trimmed_end_back (b ∷ bs) end

trimmed_spaces : (ts : List (List ℕ)) → ArePlain ts → map trimmed (map (λ u. 32 ∷ u) ts) ≡ ts
trimmed_spaces [] a = refl
trimmed_spaces (t ∷ ts) a = ap (λ u. u ∷ map trimmed (map (λ u. 32 ∷ u) ts)) (trimmed_space t a.0) ∙ ap (λ l. t ∷ l) (trimmed_spaces ts a.1)

-- operands, joined and cut, are the operands
pub pieces_back : (t : List ℕ) (ts : List (List ℕ)) → IsPlain t → ArePlain ts → pieces_of (t ++ joined ts) ≡ t ∷ ts
pieces_back [] ts h a = absurd (omega (arith, h.some))
pieces_back (b ∷ bs) ts h a =
    ap (map trimmed) (split_joined (b ∷ bs) ts (no_comma (b ∷ bs) h.bytes) a)
    ∙ ap (λ u. u ∷ map trimmed (map (λ u. 32 ∷ u) ts)) (trimmed_back (b ∷ bs) h) ∙ ap (λ l. (b ∷ bs) ∷ l) (trimmed_spaces ts a)

-- they end with no white space
pub joined_last : (t : List ℕ) (ts : List (List ℕ)) → IsPlain t → ArePlain ts → is_blank (last (t ++ joined ts)) ≡ false
joined_last t [] h a =
    ap (λ x. is_blank (last x)) (append_nil t) ∙ plain_blank (last t) (every_at is_plain t (length t - 1) 0 h.bytes (omega (arith, h.some)))
joined_last t (u ∷ us) h a =
    let some : 0 < length (u ++ joined us) = omega (arith, length-append u (joined us), a.0.some) in
    ap is_blank (last-append t (44 ∷ 32 ∷ (u ++ joined us)) (omega arith)) ∙ ap is_blank (last-append (44 ∷ 32 ∷ []) (u ++ joined us) some)
    ∙ joined_last u us a.0 a.1
