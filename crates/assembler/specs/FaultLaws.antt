-- The first fault of a line by cases, as the code decides it.
use Rattle.std.proofs.Common.{◌≡◌, ℕ, Bool, true, false, not, List, [], ◌∷◌, Option, Some, None, refl}
use Rattle.std.specs.Prelude.{if◌then◌else◌}
use Rattle.std.specs.Option.{option_or}
use Rattle.base.specs.FirstFault.{first_fault}
use Rattle.asm_lines.specs.declared.fault.LineFault.{LineFault}
use Rattle.asm_lines.specs.declared.fault.LineFault.TheVariants as line
use Rattle.asm_lines.specs.Statement.{Statement}
use Rattle.asm_lines.specs.Line.{Line}
use Rattle.assembler.specs.declared.fault.AsmCode.{AsmCode}
use Rattle.assembler.specs.declared.fault.AsmCode.TheVariants.{A1, A2, A3, A4, A5, A6, A7, A8, A9, A11}
use Rattle.assembler.specs.Places.{Symbols}
use Rattle.assembler.specs.Values.{has_value_beyond, has_unknown_name, is_out_of_reach}
use Rattle.assembler.specs.Checks.{named_fault}
use Rattle.assembler.specs.Capabilities.{is_inexact}
use Rattle.assembler.specs.Faults.{Assembled, page_count, lacks_place_for, is_repeated, is_statement_misplaced, line_fault}

-- the first fault of a statement that stands in the text, whose line alone has none: of what it names, then of its place, then of the
-- capability that it says
unfoldable pub statement_fault : Symbols → Assembled → Statement → Option AsmCode
statement_fault symbols s statement =
    option_or (named_fault (page_count s) symbols s.places.place statement)
    (if lacks_place_for s statement then Some A7 else (if is_inexact symbols s.places.place statement then Some A11 else None))

abbrev pub fault_in_text : Symbols → Assembled → Option Statement → Option AsmCode
fault_in_text symbols s None = None
fault_in_text symbols s (Some statement) = statement_fault symbols s statement

unfoldable pub fault_by : Symbols → Assembled → Line → Option LineFault → Option AsmCode
fault_by symbols s l (Some line.A8) = Some A8
fault_by symbols s l (Some line.A9) = Some A9
fault_by symbols s l (Some line.A1) = if is_repeated s l.label then Some A4 else Some A1
fault_by symbols s l (Some line.A2) = if is_repeated s l.label then Some A4 else Some A2
fault_by symbols s l (Some line.A3) =
    if is_repeated s l.label then Some A4 else (if is_statement_misplaced s l.statement then Some A2 else Some A3)
fault_by symbols s l None =
    if is_repeated s l.label then Some A4
    else (if is_statement_misplaced s l.statement then Some A2 else fault_in_text symbols s l.statement)

-- ---- the list's first fault is that

turned : (b : Bool) (x y : Option AsmCode) → (if not b then x else y) ≡ (if b then y else x)
turned true x y = refl
turned false x y = refl

in_order : (in_range named near : Bool) (placeless inexact : Bool)
    → first_fault ((in_range, A3) ∷ (named, A5) ∷ (near, A6) ∷ (not placeless, A7) ∷ (not inexact, A11) ∷ [])
    ≡ option_or (first_fault ((in_range, A3) ∷ (named, A5) ∷ (near, A6) ∷ []))
    (if placeless then Some A7 else (if inexact then Some A11 else None))
in_order false named near placeless inexact = refl
in_order true false near placeless inexact = refl
in_order true true false placeless inexact = refl
in_order true true true true inexact = refl
in_order true true true false true = refl
in_order true true true false false = refl

placed : (repeated misplaced : Bool) (rest other : Option AsmCode) → rest ≡ other
    → (if not repeated then (if not misplaced then rest else Some A2) else Some A4)
    ≡ (if repeated then Some A4 else (if misplaced then Some A2 else other))
placed true misplaced rest other same = refl
placed false true rest other same = refl
placed false false rest other same = same

by_statement : (symbols : Symbols) (s : Assembled) (label : Option (List ℕ)) (statement : Option Statement)
    → line_fault symbols s (record { label = label; statement = statement; fault = None })
    ≡ fault_by symbols s (record { label = label; statement = statement; fault = None }) None
unfolding line_fault fault_by statement_fault named_fault has_value_beyond has_unknown_name is_out_of_reach
by_statement symbols s label None = placed (is_repeated s label) false None None refl
by_statement symbols s label (Some statement) =
    placed (is_repeated s label) (is_statement_misplaced s (Some statement)) _ _
    (in_order (not (has_value_beyond symbols s.places.place statement)) (not (has_unknown_name symbols s.places.place statement))
    (not (is_out_of_reach (page_count s) symbols s.places.place statement)) (lacks_place_for s statement)
    (is_inexact symbols s.places.place statement))

by_fault : (symbols : Symbols) (s : Assembled) (label : Option (List ℕ)) (statement : Option Statement) (fault : Option LineFault)
    → line_fault symbols s (record { label = label; statement = statement; fault = fault })
    ≡ fault_by symbols s (record { label = label; statement = statement; fault = fault }) fault
unfolding line_fault fault_by
by_fault symbols s label statement (Some line.A8) = refl
by_fault symbols s label statement (Some line.A9) = refl
by_fault symbols s label statement (Some line.A1) = turned (is_repeated s label) (Some A1) (Some A4)
by_fault symbols s label statement (Some line.A2) = turned (is_repeated s label) (Some A2) (Some A4)
by_fault symbols s label statement (Some line.A3) =
    placed (is_repeated s label) (is_statement_misplaced s statement) (Some A3) (Some A3) refl
by_fault symbols s label statement None = by_statement symbols s label statement

pub line_fault-by : (symbols : Symbols) (s : Assembled) (l : Line) → line_fault symbols s l ≡ fault_by symbols s l l.fault
line_fault-by symbols s l = by_fault symbols s l.label l.statement l.fault
