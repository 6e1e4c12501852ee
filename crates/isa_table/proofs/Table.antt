-- The decisions are the instruction table: two tests of the decisions, which compute, and what they mean.
use Rattle.std.proofs.Common.{◌≡◌, ℕ, Bool, true, false, ◌==◌, ◌&&◌, ◌||◌, if◌then◌else◌, List, [], ◌∷◌, Option, Some, None, ◌⊎◌, inl, inr}
use Rattle.std.proofs.Common.{refl, ap, subst, ◌∙◌, arith}
use Rattle.std.proofs.lemmas.Bool.{eqb-true}
use Rattle.isa_rows.specs.declared.formats.Format.{Format}
use Rattle.isa_rows.specs.declared.formats.Format.TheVariants.{Upper, Jump, Immediate, Unsigned, Store, Branch, Shift6, Shift5, Register}
use Rattle.isa_rows.specs.declared.formats.Format.TheVariants.{Whole, Unary, Pair}
use Rattle.isa_rows.specs.declared.rows.Row.{Row}
use Rattle.isa_rows.specs.declared.rows.Row.TheVariants.{Lui}
use Rattle.isa_rows.specs.Line.{line_of, IsRow}
use Rattle.base.specs.Bits.{field}
use Rattle.isa_rows.specs.WordLaws.{masked, masked-line_of, IsRow-masked, IsRow-from_masked}
use Rattle.isa_table.specs.Decision.{Decision, test, found, absent, row_by, jumps, branches, loads, stores, fences, left_shifts}
use Rattle.isa_table.specs.Decision.{right_shifts, immediates, left_word_shifts, right_word_shifts, word_immediates, registers}
use Rattle.isa_table.specs.Decision.{other_registers, products, operations, word_registers, other_word_registers, word_products}
use Rattle.isa_table.specs.Decision.{word_operations, whole_words, system, explicit_stores, explicit_loads, invocations, one_operand}
use Rattle.isa_table.specs.Decision.{by_funct7, capability_rows, table}

-- the fields that a format's rows fix: the first bit and the number of bits
fixed_by : Format → List (ℕ × ℕ)
fixed_by Upper = (0, 7) ∷ []
fixed_by Jump = (0, 7) ∷ []
fixed_by Immediate = (0, 7) ∷ (12, 3) ∷ []
fixed_by Unsigned = (0, 7) ∷ (12, 3) ∷ []
fixed_by Store = (0, 7) ∷ (12, 3) ∷ []
fixed_by Branch = (0, 7) ∷ (12, 3) ∷ []
fixed_by Shift6 = (0, 7) ∷ (12, 3) ∷ (26, 6) ∷ []
fixed_by Shift5 = (0, 7) ∷ (12, 3) ∷ (25, 7) ∷ []
fixed_by Register = (0, 7) ∷ (12, 3) ∷ (25, 7) ∷ []
fixed_by Whole = (0, 7) ∷ (12, 3) ∷ (0, 32) ∷ []
fixed_by Unary = (0, 7) ∷ (12, 3) ∷ (20, 5) ∷ (25, 7) ∷ []
fixed_by Pair = (0, 7) ∷ (12, 3) ∷ (7, 5) ∷ (25, 7) ∷ []

-- two words have the same fields
abbrev SameFields : List (ℕ × ℕ) → ℕ → ℕ → Type 0
SameFields [] w v = Unit {0}
SameFields ((low, count) ∷ rest) w v = (field w low count ≡ field v low count) × (SameFields rest w v)

SameFields-masked : (format : Format) (w v : ℕ) → masked format w ≡ v → masked format v ≡ v → SameFields (fixed_by format) w v
unfolding fixed_by
SameFields-masked Upper w v p q = (omega arith, tt)
SameFields-masked Jump w v p q = (omega arith, tt)
SameFields-masked Immediate w v p q = (omega arith, (omega arith, tt))
SameFields-masked Unsigned w v p q = (omega arith, (omega arith, tt))
SameFields-masked Store w v p q = (omega arith, (omega arith, tt))
SameFields-masked Branch w v p q = (omega arith, (omega arith, tt))
SameFields-masked Shift6 w v p q = (omega arith, (omega arith, (omega arith, tt)))
SameFields-masked Shift5 w v p q = (omega arith, (omega arith, (omega arith, tt)))
SameFields-masked Register w v p q = (omega arith, (omega arith, (omega arith, tt)))
SameFields-masked Whole w v p q = (omega arith, (omega arith, (omega arith, tt)))
SameFields-masked Unary w v p q = (omega arith, (omega arith, (omega arith, (omega arith, tt))))
SameFields-masked Pair w v p q = (omega arith, (omega arith, (omega arith, (omega arith, tt))))

masked-SameFields : (format : Format) (w v : ℕ) → SameFields (fixed_by format) w v → masked format v ≡ v → masked format w ≡ v
unfolding fixed_by
masked-SameFields Upper w v p q = omega arith
masked-SameFields Jump w v p q = omega arith
masked-SameFields Immediate w v p q = omega arith
masked-SameFields Unsigned w v p q = omega arith
masked-SameFields Store w v p q = omega arith
masked-SameFields Branch w v p q = omega arith
masked-SameFields Shift6 w v p q = omega arith
masked-SameFields Shift5 w v p q = omega arith
masked-SameFields Register w v p q = omega arith
masked-SameFields Whole w v p q = omega arith
masked-SameFields Unary w v p q = omega arith
masked-SameFields Pair w v p q = omega arith

-- tests
and_split : (a b : Bool) → (a && b) ≡ true → (a ≡ true) × (b ≡ true)
and_split true b h = (refl, h)
and_split false b h = cc

or_split : (a b : Bool) → (a || b) ≡ true → (a ≡ true) ⊎ (b ≡ true)
or_split true b h = inl refl
or_split false b h = inr h

pick : (b : Bool) (p q : Option Row) (row : Row) → (if b then p else q) ≡ Some row
    → ((b ≡ true) × (p ≡ Some row)) ⊎ ((b ≡ false) × (q ≡ Some row))
pick true p q row h = inl (refl, h)
pick false p q row h = inr (refl, h)

none_some : (row : Row) → None ≡ Some row → ⊥
none_some row h = cc

-- ---- a row's words lead to it

-- a field is one of those given
abbrev has : List (ℕ × ℕ) → ℕ → ℕ → Bool
has [] low count = false
has ((l, c) ∷ rest) low count = ((l == low) && (c == count)) || has rest low count

has-same : (fields : List (ℕ × ℕ)) (low count w v : ℕ) → has fields low count ≡ true → SameFields fields w v
    → field w low count ≡ field v low count
has-same [] low count w v h s = cc
has-same ((l, c) ∷ rest) low count w v h s =
    elim (or_split _ _ h) [
      | inl here ↦
          let both = and_split _ _ here in
          let at_low = eqb-true l low both.0 in
          let at_count = eqb-true c count both.1 in
          subst (λ k. field w low k ≡ field v low k) at_count (subst (λ k. field w k c ≡ field v k c) at_low s.0)
      | inr later ↦ has-same rest low count w v later s.1
    ]

-- where a decision leads words that have these fields of a value, if it tests no other
abbrev path : Decision → List (ℕ × ℕ) → ℕ → Option Row
path (test low count x hit miss) fields v =
    if has fields low count then (if field v low count == x then path hit fields v else path miss fields v) else None
path (found row) fields v = Some row
path absent fields v = None

row_by-path : (d : Decision) (fields : List (ℕ × ℕ)) (w v : ℕ) (row : Row) → SameFields fields w v → path d fields v ≡ Some row
    → row_by d w ≡ Some row
row_by-path (test low count x hit miss) fields w v row s h =
    let choice = λ (b : Bool). if b then row_by hit w else row_by miss w in
    elim (pick (has fields low count) (if field v low count == x then path hit fields v else path miss fields v) None row h) [
      | inl p ↦
          let same = has-same fields low count w v p.0 s in
          elim (pick (field v low count == x) (path hit fields v) (path miss fields v) row p.1) [
            | inl q ↦ ap choice (ap (λ n. n == x) same ∙ q.0) ∙ row_by-path hit fields w v row s q.1
            | inr q ↦ ap choice (ap (λ n. n == x) same ∙ q.0) ∙ row_by-path miss fields w v row s q.1
          ]
      | inr p ↦ absurd (none_some row p.1)
    ]
row_by-path (found r) fields w v row s h = h
row_by-path absent fields w v row s h = h

path_table : (row : Row) → path table (fixed_by (line_of row).format) (line_of row).value ≡ Some row
unfolding line_of fixed_by jumps branches loads stores fences left_shifts right_shifts immediates left_word_shifts right_word_shifts
    word_immediates registers other_registers products operations word_registers other_word_registers word_products word_operations
    whole_words system explicit_stores explicit_loads invocations one_operand by_funct7 capability_rows table
path_table Lui = refl
path_table _ = refl

-- ---- a decision's rows are those of its words

-- a field is known to have a number
abbrev known : List (ℕ × ℕ × ℕ) → ℕ → ℕ → ℕ → Bool
known [] low count x = false
known ((l, c, y) ∷ rest) low count x = ((l == low) && ((c == count) && (y == x))) || known rest low count x

-- the fields are known to be a value's
abbrev knows : List (ℕ × ℕ × ℕ) → List (ℕ × ℕ) → ℕ → Bool
knows facts [] v = true
knows facts ((low, count) ∷ rest) v = known facts low count (field v low count) && knows facts rest v

-- each row that the decision finds has its fields known by then
abbrev sound : Decision → List (ℕ × ℕ × ℕ) → Bool
sound (test low count x hit miss) facts = sound hit ((low, count, x) ∷ facts) && sound miss facts
sound (found row) facts = knows facts (fixed_by (line_of row).format) (line_of row).value
sound absent facts = true

abbrev AllTrue : List (ℕ × ℕ × ℕ) → ℕ → Type 0
AllTrue [] w = Unit {0}
AllTrue ((low, count, x) ∷ rest) w = (field w low count ≡ x) × (AllTrue rest w)

known-true : (facts : List (ℕ × ℕ × ℕ)) (low count x w : ℕ) → known facts low count x ≡ true → AllTrue facts w → field w low count ≡ x
known-true [] low count x w h t = cc
known-true ((l, c, y) ∷ rest) low count x w h t =
    elim (or_split _ _ h) [
      | inl here ↦
          let all = and_split _ _ here in
          let both = and_split _ _ all.1 in
          let at_low = eqb-true l low all.0 in
          let at_count = eqb-true c count both.0 in
          subst (λ k. field w low k ≡ x) at_count (subst (λ k. field w k c ≡ x) at_low (t.0 ∙ eqb-true y x both.1))
      | inr later ↦ known-true rest low count x w later t.1
    ]

knows-same : (facts : List (ℕ × ℕ × ℕ)) (fields : List (ℕ × ℕ)) (w v : ℕ) → knows facts fields v ≡ true → AllTrue facts w
    → SameFields fields w v
knows-same facts [] w v h t = tt
knows-same facts ((low, count) ∷ rest) w v h t =
    let both = and_split _ _ h in
    (known-true facts low count (field v low count) w both.0 t, knows-same facts rest w v both.1 t)

sound-same : (d : Decision) (facts : List (ℕ × ℕ × ℕ)) (w : ℕ) (row : Row) → sound d facts ≡ true → AllTrue facts w → row_by d w ≡ Some row
    → SameFields (fixed_by (line_of row).format) w (line_of row).value
sound-same (test low count x hit miss) facts w row h t e =
    let both = and_split _ _ h in
    elim (pick (field w low count == x) (row_by hit w) (row_by miss w) row e) [
      | inl p ↦ sound-same hit ((low, count, x) ∷ facts) w row both.0 (eqb-true (field w low count) x p.0, t) p.1
      | inr p ↦ sound-same miss facts w row both.1 t p.1
    ]
sound-same (found r) facts w row h t e =
    let same : r ≡ row = cc in
    subst (λ q. SameFields (fixed_by (line_of q).format) w (line_of q).value) same
    (knows-same facts (fixed_by (line_of r).format) w (line_of r).value h t)
sound-same absent facts w row h t e = cc

sound_table : sound table [] ≡ true
unfolding line_of fixed_by jumps branches loads stores fences left_shifts right_shifts immediates left_word_shifts right_word_shifts
    word_immediates registers other_registers products operations word_registers other_word_registers word_products word_operations
    whole_words system explicit_stores explicit_loads invocations one_operand by_funct7 capability_rows table
sound_table = refl

-- ---- what both tests say

-- the row that the decoder finds is the word's
pub row_by-IsRow : (w : ℕ) (row : Row) → row_by table w ≡ Some row → IsRow w row
row_by-IsRow w row h =
    IsRow-from_masked w row (masked-SameFields (line_of row).format w (line_of row).value (sound-same table [] w row sound_table tt h)
    (masked-line_of row))

-- and a word that is a row leads to it
pub IsRow-row_by : (w : ℕ) (row : Row) → IsRow w row → row_by table w ≡ Some row
IsRow-row_by w row h =
    row_by-path table (fixed_by (line_of row).format) w (line_of row).value row
    (SameFields-masked (line_of row).format w (line_of row).value (IsRow-masked w row h) (masked-line_of row)) (path_table row)
