-- What a statement asks of its expressions: its first fault by cases, and what is known where it has none.
use Rattle.std.proofs.Common.{◌≡◌, ℕ, Bool, true, false, not, ◌||◌, ℤ, pos, ◌-ℤ◌, List, [], ◌∷◌, map, Option, Some, None, is_none, refl}
use Rattle.std.proofs.Common.{sym, ap}
use Rattle.std.specs.List.{list_any}
use Rattle.base.specs.FirstFault.{first_fault}
use Rattle.isa_rows.specs.declared.operands.Insn.{Insn}
use Rattle.isa_rows.specs.Line.{line_of}
use Rattle.asm_lines.specs.Text.{pieces_of}
use Rattle.asm_lines.specs.Number.{Expression, expression_of, is_in_limits}
use Rattle.asm_lines.specs.declared.parsed.Directive.TheVariants.{Values, Capability}
use Rattle.asm_lines.specs.Statement.{row, load, item, capability_parts, expression_or_nought}
use Rattle.assembler.specs.declared.fault.AsmCode.TheVariants.{A3, A5, A6}
use Rattle.assembler.specs.declared.checks.Test.TheVariants.{IsUnknown, IsBeyond}
use Rattle.assembler.specs.Places.{Symbols}
use Rattle.assembler.specs.Values.{value_of, known_and, reach_of, is_reached, is_loadable, AskedValue, asked, asked_by_instruction}
use Rattle.assembler.specs.Values.{asked_value, asked_part, part_of, asked_by_data, is_beyond, is_unknown, is_far}
use Rattle.assembler.specs.Checks.{asked_fault, value_fault, passes, any_passes}
use Rattle.assembler.specs.Sound.{IsKnown, AreKnown}
use Rattle.assembler.proofs.TestLemmas.{or-false, false-or}

-- of one expression
known-fault : (in_range near : Bool)
    → first_fault ((not (not in_range || false), A3) ∷ (true, A5) ∷ (not (not near || false), A6) ∷ [])
    ≡ first_fault ((in_range, A3) ∷ (near, A6) ∷ [])
known-fault true true = refl
known-fault true false = refl
known-fault false near = refl

one-fault : (range near : ℤ → Bool) (value : Option ℤ)
    → first_fault
    ((not (known_and (λ v. not (range v)) value || false), A3)
    ∷ (not (is_none value || false), A5)
    ∷ (not (known_and (λ v. not (near v)) value || false), A6)
    ∷ [])
    ≡ value_fault range near value
one-fault range near None = refl
one-fault range near (Some v) = known-fault (range v) (near v)

pub asked_one : (page_count : ℕ) (symbols : Symbols) (here : ℕ) (a : AskedValue)
    → value_fault a.is_in_range (a.is_near page_count here) (value_of symbols here a.expression)
    ≡ asked_fault page_count symbols here (a ∷ [])
asked_one page_count symbols here a = sym (one-fault a.is_in_range (a.is_near page_count here) (value_of symbols here a.expression))

pub asked_target : (page_count : ℕ) (symbols : Symbols) (here : ℕ) (i : Insn) (e : Expression)
    → value_fault is_in_limits (λ v. is_reached (reach_of (line_of i.row).format) (v -ℤ pos here)) (value_of symbols here e)
    ≡ asked_fault page_count symbols here (asked_by_instruction (row i (Some e)))
asked_target page_count symbols here i e =
    asked_one page_count symbols here
    (asked e is_in_limits (λ count place v. is_reached (reach_of (line_of i.row).format) (v -ℤ pos place)))

pub asked_load : (page_count : ℕ) (symbols : Symbols) (here : ℕ) (capability : Bool) (rd : ℕ) (e : Expression)
    → value_fault is_in_limits (λ v. is_loadable (v -ℤ pos here)) (value_of symbols here e)
    ≡ asked_fault page_count symbols here (asked_by_instruction (load capability rd e))
asked_load page_count symbols here capability rd e =
    asked_one page_count symbols here (asked e is_in_limits (λ count place v. is_loadable (v -ℤ pos place)))

-- of the values of a list, of which each is in reach
beyond-values : (symbols : Symbols) (here size : ℕ) (ps : List (List ℕ))
    → list_any (is_beyond symbols here) (map (asked_value size) ps) ≡ any_passes (IsBeyond size) symbols here ps
beyond-values symbols here size [] = refl
beyond-values symbols here size (p ∷ ps) =
    ap (λ b. passes (IsBeyond size) (value_of symbols here (expression_or_nought (expression_of p))) || b)
    (beyond-values symbols here size ps)

unknown-values : (symbols : Symbols) (here size : ℕ) (ps : List (List ℕ))
    → list_any (is_unknown symbols here) (map (asked_value size) ps) ≡ any_passes IsUnknown symbols here ps
unknown-values symbols here size [] = refl
unknown-values symbols here size (p ∷ ps) =
    ap (λ b. is_none (value_of symbols here (expression_or_nought (expression_of p))) || b) (unknown-values symbols here size ps)

never-far : (value : Option ℤ) → known_and (λ v. not true) value ≡ false
never-far None = refl
never-far (Some v) = refl

far-values : (page_count : ℕ) (symbols : Symbols) (here size : ℕ) (ps : List (List ℕ))
    → list_any (is_far page_count symbols here) (map (asked_value size) ps) ≡ false
far-values page_count symbols here size [] = refl
far-values page_count symbols here size (p ∷ ps) =
    false-or _ _ (never-far (value_of symbols here (expression_or_nought (expression_of p)))) (far-values page_count symbols here size ps)

pub asked_values : (page_count : ℕ) (symbols : Symbols) (here size n : ℕ) (operands : List ℕ)
    → first_fault
    ((not (any_passes (IsBeyond size) symbols here (pieces_of operands)), A3)
    ∷ (not (any_passes IsUnknown symbols here (pieces_of operands)), A5)
    ∷ [])
    ≡ asked_fault page_count symbols here (asked_by_data (item (Values size) n operands))
asked_values page_count symbols here size n operands =
    let ps = pieces_of operands in
    rw (beyond-values symbols here size ps, unknown-values symbols here size ps, far-values page_count symbols here size ps) refl

-- of the operands of .cap, of which each is in reach
far-parts : (page_count : ℕ) (symbols : Symbols) (here : ℕ) (operands : List ℕ) (parts : List (ℕ × ℕ))
    → list_any (is_far page_count symbols here) (map (asked_part operands) parts) ≡ false
far-parts page_count symbols here operands [] = refl
far-parts page_count symbols here operands (p ∷ ps) =
    false-or _ _ (never-far (value_of symbols here (part_of operands p.0))) (far-parts page_count symbols here operands ps)

pub asked_parts : (page_count : ℕ) (symbols : Symbols) (here n : ℕ) (operands : List ℕ)
    → first_fault
    ((not (list_any (is_beyond symbols here) (map (asked_part operands) capability_parts)), A3)
    ∷ (not (list_any (is_unknown symbols here) (map (asked_part operands) capability_parts)), A5)
    ∷ [])
    ≡ asked_fault page_count symbols here (asked_by_data (item Capability n operands))
asked_parts page_count symbols here n operands = rw (far-parts page_count symbols here operands capability_parts) refl

-- a range that lies within the limits of numbers
abbrev pub IsLimited : AskedValue → Type 0
IsLimited a = (v : ℤ) → a.is_in_range v ≡ true → is_in_limits v ≡ true

abbrev pub AreLimited : List AskedValue → Type 0
AreLimited [] = Unit {0}
AreLimited (a ∷ others) = IsLimited a × AreLimited others

known-one : (symbols : Symbols) (here : ℕ) (a : AskedValue) (value : Option ℤ) → IsLimited a
    → known_and (λ v. not (a.is_in_range v)) value ≡ false → is_none value ≡ false → IsKnown value
known-one symbols here a None l h g = cc
known-one symbols here a (Some v) l h g =
    l v (elim (a.is_in_range v) as (λ b. not b ≡ false → b ≡ true) [ true ↦ λ _. refl | false ↦ λ e. cc ] h)

-- expressions of which none is beyond its range or unknown
pub known-asked : (symbols : Symbols) (here : ℕ) (asks : List AskedValue) → AreLimited asks → list_any (is_beyond symbols here) asks ≡ false
    → list_any (is_unknown symbols here) asks ≡ false → AreKnown symbols here asks
known-asked symbols here [] l h g = tt
known-asked symbols here (a ∷ others) l h g =
    let p = or-false _ _ h in
    let q = or-false _ _ g in
    (known-one symbols here a (value_of symbols here a.expression) l.0 p.0 q.0, known-asked symbols here others l.1 p.1 q.1)
