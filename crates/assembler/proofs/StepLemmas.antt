-- One line without a fault more: what is assembled before the first faulty line, and what is left of the text.
use Rattle.std.proofs.Common.{◌≡◌, ℕ, ◌+◌, ◌*◌, ◌^◌, ◌<◌, ◌≤◌, inl, inr, List, ◌∷◌, length}
use Rattle.std.proofs.Common.{Option, Some, None, IfSome, sym, ap, arith}
use Rattle.std.specs.Borrow.{Bor}
use Rattle.asm_lines.specs.Line.{Line}
use Rattle.assembler.specs.Left.{left}
use Rattle.assembler.specs.Modest.{IsNear}
use Rattle.assembler.specs.Places.{Symbols}
use Rattle.assembler.specs.Faults.{Assembled, line_fault, assembled_after}
use Rattle.assembler.specs.Standing.{before_fault}

pub before-step : (symbols : Symbols) (s t : Assembled) (l : Line) (ls : List Line) → line_fault symbols s l ≡ None
    → t ≡ assembled_after symbols s l → before_fault symbols s (l ∷ ls) ≡ before_fault symbols t ls
before-step symbols s t l ls none after = rw none (ap (λ a. before_fault symbols a ls) (sym after))

pub left-past : (rest : Option (Bor (List ℕ))) (n : ℕ) → IfSome rest (λ r. length r.now < n) → left rest ≤ n
left-past None n h = omega arith
left-past (Some r) n h = omega arith

pub room-past : (place end l m n : ℕ) → IsNear place end → m < l → l ≤ n → place + 2 ^ 28 * l ≤ 2 ^ 64 + 2 ^ 28 * n
    → end + 2 ^ 28 * m ≤ 2 ^ 64 + 2 ^ 28 * n
room-past place end l m n (inl h) a b r = omega arith
room-past place end l m n (inr h) a b r = omega arith
