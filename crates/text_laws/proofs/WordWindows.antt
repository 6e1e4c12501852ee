-- The bounds of a well-formed word stay from its window's first address to its last one.
use Rattle.std.proofs.Common.{◌≡◌, ℕ, ◌-◌, ◌^◌, ◌<◌, false, leb, refl, sym, ap, ◌∙◌, subst, inl, inr}
use Rattle.std.specs.Prelude.{IsTrue}
use Rattle.std.proofs.lemmas.Bool.{cases_lt, le-leb}
use Rattle.cap_bounds.specs.Mantissa.{exponent_of}
use Rattle.cap_bounds.specs.Window.{base_of_word}
use Rattle.cap_bounds.specs.Record.{IsWordWellFormed, Record, decoded, encoded, exponent_for, has_exponent, is_in_window, window_holds}
use Rattle.cap_bounds.specs.ExponentLaws.{exponent_for-high, exponent_for-short}
use Rattle.cap_bounds.specs.RecordLaws.{keeps_bounds-in_window}
use Rattle.cap_bounds.specs.WindowEnds.{window_last, window_place}
use Rattle.cap_bounds.specs.WindowEndsLaws.{is_in_window-place}
use Rattle.bounds_text.proofs.SetBounds.{exponent_of-encoded_at}
use Rattle.text_laws.specs.Bounds.{WordsStayFromFirstToLast}

-- without an exponent it is 0
exponent_for-clear : (n : ℕ) → has_exponent n ≡ false → exponent_for n ≡ 0
unfolding has_exponent
exponent_for-clear n clear = elim (cases_lt n 4096) [
  | inl short ↦ exponent_for-short n short
  | inr long ↦ let wide = le-leb 4096 n long in cc
]

exponent_of-record : (r : Record) → r.otype < 2 ^ 18 → r.address < 2 ^ 64 → exponent_of (encoded r) ≡ exponent_for (r.top - r.base)
unfolding encoded
exponent_of-record r otype_fits fits =
    let n : ℕ = r.top - r.base in
    exponent_of-encoded_at (exponent_for n) (has_exponent n) r (exponent_for-high n) (exponent_for-clear n) otype_fits fits

-- a well-formed word's exponent is that of its length
exponent_of-well_formed : (word : ℕ) → IsWordWellFormed word
    → exponent_of word ≡ exponent_for ((decoded word).top - (decoded word).base)
exponent_of-well_formed word well =
    ap exponent_of (sym well.canonical) ∙ exponent_of-record (decoded word) well.decodes.otype_fits well.decodes.address_fits

base-decoded : (word : ℕ) → (decoded word).base ≡ base_of_word word
unfolding decoded
base-decoded word = refl

pub words_stay : WordsStayFromFirstToLast
words_stay word address well fits =
    let e : ℕ = exponent_of word in
    let base : ℕ = base_of_word word in
    let base_fits : base < 2 ^ 64 = subst (λ b. b < 2 ^ 64) (base-decoded word) well.decodes.base_fits in
    let law = keeps_bounds-in_window word address well fits in
    let same : window_holds (decoded word) address ≡ leb (window_place e base address) (window_place e base (window_last e base)) =
    ap (λ n. is_in_window n (decoded word).base address) (sym (exponent_of-well_formed word well))
    ∙ ap (λ b. is_in_window e b address) (base-decoded word)
    ∙ is_in_window-place e base address base_fits fits in
    (λ keeps. subst IsTrue same (law.1 keeps), λ within. law.0 (subst IsTrue (sym same) within))
