-- Values with commas between, one after another.
use Rattle.std.proofs.Common.{◌≡◌, ℕ, List, ◌∷◌, Option, Some, sym, ◌∙◌}
use Rattle.asm_lines.specs.declared.fault.LineFault.{LineFault}
use Rattle.asm_lines.specs.Text.{pieces_between, pieces_left}
use Rattle.asm_lines.specs.Number.{expression_of}
use Rattle.asm_lines.specs.Operand.{told_fault}
use Rattle.asm_lines.specs.Statement.{is_in_size, value_fault, values_fault}
use Rattle.asm_lines.proofs.Faults.{told_in_turn}

pub values_step : (size : ℕ) (rest : Option (List ℕ)) (text p : List ℕ) (left : List (List ℕ)) (fault whole : Option LineFault)
    → rest ≡ Some text → pieces_between text ≡ p ∷ left → told_fault fault (values_fault size (pieces_left rest)) ≡ whole
    → told_fault (told_fault fault (value_fault (is_in_size size) (expression_of p))) (values_fault size left) ≡ whole
values_step size rest text p left fault whole some cut e =
    let first : told_fault fault (values_fault size (pieces_between text)) ≡ whole = rw some at e in
    let next : told_fault fault (told_fault (value_fault (is_in_size size) (expression_of p)) (values_fault size left)) ≡ whole =
    rw cut at first in
    sym (told_in_turn fault (value_fault (is_in_size size) (expression_of p)) (values_fault size left)) ∙ next
