-- A stretch that takes in an older link.
use Rattle.std.proofs.Common.{◌≡◌, ℕ, ◌<◌, ◌≤◌, List, [], ◌∷◌, ◌++◌, ◌+◌}
use Rattle.std.proofs.Common.{length, take, refl, sym, ap, ◌∙◌, arith, append_assoc, append-nil, take_all}
use Rattle.std.proofs.lemmas.List.{length-append, take-append-le}
use Rattle.std.specs.Prelude.{Bool, true, false, IfOk, OnOk, Result, Ok, Err}
use Rattle.origin_texts.specs.Held.{IsNewest, IsOldest, met, ended}
use Rattle.origin_texts.specs.Stretches.{Told, goes_on, last_line, lines, stretch_texts, stretches}

-- ---- one link more

pub newest_more : (n : Told) (ts : List Told) (t : Told) → 0 < length ts → IsNewest n ts → IsNewest n (ts ++ t ∷ [])
newest_more n [] t some is = absurd (omega (arith, some))
newest_more n (u ∷ us) t some is = is

pub newest_first : (ts : List Told) (t : Told) → length ts ≡ 0 → IsNewest t (ts ++ t ∷ [])
newest_first [] t none = refl
newest_first (u ∷ us) t none = absurd (cc)

last_more : (u : Told) (us : List Told) (t : Told) → last_line u (us ++ t ∷ []) ≡ t.line
last_more u [] t = refl
last_more u (v ∷ vs) t = last_more v vs t

pub oldest_more : (ts : List Told) (t : Told) (line : List ℕ) → line ≡ t.line → IsOldest line (ts ++ t ∷ [])
oldest_more [] t line e = e
oldest_more (u ∷ us) t line e = e ∙ sym (last_more u us t)

lines-append : (ts us : List Told) → lines (ts ++ us) ≡ lines ts ++ lines us
lines-append [] us = refl
lines-append (t ∷ ts) us = ap (λ l. t.line ++ l) (lines-append ts us) ∙ sym (append_assoc t.line (lines ts) (lines us))

pub lines_few : (ts : List Told) (t : Told) → length ts < 3 → lines (take 3 (ts ++ t ∷ [])) ≡ lines (take 3 ts) ++ t.line
lines_few ts t few =
    ap lines (take_all 3 (ts ++ t ∷ []) (omega (arith, few, length-append ts (t ∷ []))))
    ∙ lines-append ts (t ∷ [])
    ∙ ap (λ l. lines ts ++ l) (append-nil t.line)
    ∙ ap (λ l. lines l ++ t.line) (sym (take_all 3 ts (omega (arith, few))))

pub lines_many : (ts : List Told) (t : Told) → 3 ≤ length ts → lines (take 3 (ts ++ t ∷ [])) ≡ lines (take 3 ts)
lines_many ts t many = ap lines (take-append-le 3 ts (t ∷ []) many)

pub count_more : (ts : List Told) (t : Told) (n : ℕ) → n ≡ length ts → n + 1 ≡ length (ts ++ t ∷ [])
count_more ts t n e = omega (arith, e, length-append ts (t ∷ []))

-- ---- the text of what goes on

pub text_met : (ts : List Told) (t : Told) (us : List Told)
    → stretch_texts (stretches ts (t ∷ us)) ≡ ended ts t ++ stretch_texts (stretches (met ts t) us)
text_met ts t us = by (goes_on ts t) refl
  where
    by : (b : Bool) → goes_on ts t ≡ b → stretch_texts (stretches ts (t ∷ us)) ≡ ended ts t ++ stretch_texts (stretches (met ts t) us)
    by true e = rw e refl
    by false e = rw e refl

pub met_on : (ts : List Told) (t : Told) → goes_on ts t ≡ true → met ts t ≡ ts ++ t ∷ []
met_on ts t e = rw e refl

pub met_anew : (ts : List Told) (t : Told) → goes_on ts t ≡ false → met ts t ≡ t ∷ []
met_anew ts t e = rw e refl

pub on_ok : {T E : Type 0} (r : Result T E) (P Q : Type 0) → OnOk r P → (P → Q) → OnOk r Q
on_ok (Ok x) P Q p f = f p
on_ok (Err e) P Q p f = tt

pub if_ok : {T E : Type 0} (r : Result T E) (P Q : T → Type 0) → IfOk r P → ((x : T) → P x → Q x) → IfOk r Q
if_ok (Ok x) P Q p f = f x p
if_ok (Err e) P Q p f = tt
