-- In a correct text each label is worth the place of its line.
use Rattle.std.proofs.Common.{◌≡◌, ℕ, ◌+◌, Bool, true, false, not, nat_eq, if◌then◌else◌, List, [], ◌∷◌, ◌++◌}
use Rattle.std.proofs.Common.{Option, Some, None, is_some}
use Rattle.std.proofs.Common.{IfSome, refl, ap, ◌∙◌, subst, arith}
use Rattle.std.specs.Cmp.Lexicographic.{pointwise}
use Rattle.base.specs.Ram.{ram_base}
use Rattle.asm_lines.specs.Line.{Line}
use Rattle.assembler.specs.Places.{Symbols, Places, value_in, with_label, places_after, all_places, symbols_of, lines_of}
use Rattle.assembler.specs.Faults.{Assembled, line_fault, line_checks, is_repeated, assembled_after, opening}
use Rattle.assembler.specs.Text.{first_faulty_line, text_fault}
use Rattle.assembler.specs.Pieces.{AreWorthTheirPlaces}
use Rattle.assembler.proofs.PieceLemmas.{found-none}
use Rattle.std.proofs.lemmas.Bool.Decides.{nat_tests}
use Rattle.base.specs.FirstFaultLaws.{EachHolds, first_fault-none}

same-name : (name : List ℕ) → pointwise nat_eq name name ≡ true
same-name [] = refl
same-name (b ∷ bs) =
    let same : (nat_eq b b) ≡ true = grind (arith, nat_tests) in
    rw same (same-name bs)

not-true : (b : Bool) → not b ≡ true → b ≡ false
not-true true h = cc
not-true false h = refl

-- the label of a line without a fault is new
line_fault-new : (symbols : Symbols) (s : Assembled) (l : Line) → line_fault symbols s l ≡ None → is_repeated s l.label ≡ false
unfolding line_fault
line_fault-new symbols s l h =
    let all : EachHolds (line_checks symbols s l) = first_fault-none (line_checks symbols s l) h in
    not-true (is_repeated s l.label) all.1.1.0

-- a value stays whatever labels are added after
value-kept : (xs ys : Symbols) (name : List ℕ) (v : ℕ) → value_in xs name ≡ Some v → value_in (xs ++ ys) name ≡ Some v
value-kept [] ys name v h = absurd cc
value-kept (x ∷ xs) ys name v h =
    elim (pointwise nat_eq name x.0) as
    (λ b. (if b then Some x.1 else value_in xs name) ≡ Some v → (if b then Some x.1 else value_in (xs ++ ys) name) ≡ Some v) [
      | true ↦ λ e. e
      | false ↦ λ e. value-kept xs ys name v e
    ] h

-- a name that has no value has that of the label after
value-added : (xs : Symbols) (name : List ℕ) (v : ℕ) → is_some (value_in xs name) ≡ false
    → value_in (xs ++ (name, v) ∷ []) name ≡ Some v
value-added [] name v h = ap (λ b. if b then Some v else None) (same-name name)
value-added (x ∷ xs) name v h =
    elim (pointwise nat_eq name x.0) as
    (λ b. is_some (if b then Some x.1 else value_in xs name) ≡ false
    → (if b then Some x.1 else value_in (xs ++ (name, v) ∷ []) name) ≡ Some v) [
      | true ↦ λ e. absurd cc
      | false ↦ λ e. value-added xs name v e
    ] h

label-kept : (label : Option (List ℕ)) (place : ℕ) (symbols : Symbols) (name : List ℕ) (v : ℕ) → value_in symbols name ≡ Some v
    → value_in (with_label label place symbols) name ≡ Some v
label-kept None place symbols name v h = h
label-kept (Some other) place symbols name v h =
    elim (is_some (value_in symbols other)) as
    (λ b. value_in (if b then symbols else symbols ++ (other, place) ∷ []) name ≡ Some v) [
      | true ↦ h
      | false ↦ value-kept symbols ((other, place) ∷ []) name v h
    ]

pub all-kept : (lines : List Line) (p : Places) (name : List ℕ) (v : ℕ) → value_in p.symbols name ≡ Some v
    → value_in (all_places lines p).symbols name ≡ Some v
all-kept [] p name v h = h
all-kept (l ∷ ls) p name v h = all-kept ls (places_after l p) name v (label-kept l.label p.place p.symbols name v h)

label-worth : (label : Option (List ℕ)) (s : Assembled) → is_repeated s label ≡ false
    → IfSome label (λ name. value_in (with_label label s.places.place s.places.symbols) name ≡ Some s.places.place)
label-worth None s h = tt
label-worth (Some name) s h =
    ap (λ b. value_in (if b then s.places.symbols else s.places.symbols ++ (name, s.places.place) ∷ []) name) h
    ∙ value-added s.places.symbols name s.places.place h

worth-kept : (label : Option (List ℕ)) (lines : List Line) (p : Places) (v : ℕ)
    → IfSome label (λ name. value_in p.symbols name ≡ Some v)
    → IfSome label (λ name. value_in (all_places lines p).symbols name ≡ Some v)
worth-kept None lines p v h = tt
worth-kept (Some name) lines p v h = all-kept lines p name v h

after-places : (symbols : Symbols) (s : Assembled) (l : Line) → (assembled_after symbols s l).places ≡ places_after l s.places
unfolding assembled_after
after-places symbols s l = refl

all-worth : (symbols : Symbols) (s : Assembled) (number : ℕ) (lines : List Line) → first_faulty_line symbols s number lines ≡ None
    → AreWorthTheirPlaces (all_places lines s.places).symbols s.places.place lines
all-worth symbols s number [] h = tt
all-worth symbols s number (l ∷ ls) h =
    let none = found-none (line_fault symbols s l) number _ h in
    let here = label-worth l.label s (line_fault-new symbols s l none.0) in
    let rest = all-worth symbols (assembled_after symbols s l) (number + 1) ls none.1 in (
      worth-kept l.label ls (places_after l s.places) s.places.place here,
      subst (λ p. AreWorthTheirPlaces (all_places ls p).symbols p.place ls) (after-places symbols s l) rest,
    )

pub labels-worth : (text : List ℕ) → text_fault text ≡ None → AreWorthTheirPlaces (symbols_of text) ram_base (lines_of text)
labels-worth text h = all-worth (symbols_of text) opening 1 (lines_of text) h
