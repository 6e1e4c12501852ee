-- The faults of a statement that its place and its values decide, before its bytes are placed.
use Rattle.std.specs.Prelude.{ℕ, Bool, true, not, ℤ, List, [], ◌∷◌, Option, Some, None, is_none}
use Rattle.std.specs.List.{list_any}
use Rattle.base.specs.FirstFault.{first_fault}
use Rattle.asm_lines.specs.Number.{expression_of}
use Rattle.asm_lines.specs.Statement.{Statement, is_size, is_in_size, expression_or_nought}
use Rattle.assembler.specs.declared.fault.AsmCode.{AsmCode}
use Rattle.assembler.specs.declared.fault.AsmCode.TheVariants.{A3, A5, A6}
use Rattle.assembler.specs.declared.checks.Test.{Test}
use Rattle.assembler.specs.declared.checks.Test.TheVariants.{IsUnknown, IsBeyond}
use Rattle.assembler.specs.Places.{Symbols}
use Rattle.assembler.specs.Values.{value_of, known_and, AskedValue, asked_by, is_beyond, is_unknown, is_far}

-- the first fault of what is asked of expressions, and of what a statement asks of its expressions
abbrev pub asked_fault : ℕ → Symbols → ℕ → List AskedValue → Option AsmCode
asked_fault page_count symbols here asks =
    first_fault
    ((not (list_any (is_beyond symbols here) asks), A3)
    ∷ (not (list_any (is_unknown symbols here) asks), A5)
    ∷ (not (list_any (is_far page_count symbols here) asks), A6)
    ∷ [])

unfoldable pub named_fault : ℕ → Symbols → ℕ → Statement → Option AsmCode
named_fault page_count symbols here s = asked_fault page_count symbols here (asked_by s)

-- of one value
abbrev pub value_fault : (ℤ → Bool) → (ℤ → Bool) → Option ℤ → Option AsmCode
value_fault is_in_range is_near None = Some A5
value_fault is_in_range is_near (Some v) = first_fault ((is_in_range v, A3) ∷ (is_near v, A6) ∷ [])

-- what is asked of the values of a list, in the order of the code: of all whether they are beyond, then of all whether they are unknown
abbrev pub passes : Test → Option ℤ → Bool
passes IsUnknown = is_none
passes (IsBeyond size) = known_and (λ v. not (is_in_size size v))

abbrev pub is_test : Test → Bool
is_test IsUnknown = true
is_test (IsBeyond size) = is_size size

abbrev pub any_passes : Test → Symbols → ℕ → List (List ℕ) → Bool
any_passes test symbols here pieces =
    list_any (λ piece. passes test (value_of symbols here (expression_or_nought (expression_of piece)))) pieces
