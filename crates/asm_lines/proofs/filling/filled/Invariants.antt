use Rattle.std.proofs.Common.{◌≡◌, drop}
use Rattle.asm_lines.specs.Text.{pieces_of, pieces_left}
use Rattle.asm_lines.specs.Operand.{told_fault, filled_draft, filled_fault}
use Rattle.asm_lines.specs.Bounded.{HasTargetOffset}
use Rattle.asm_lines.specs.Seen.{seen_draft, seen_rest}
use Rattle.asm_lines.proofs.filling.filled.Given as goal

-- what the slots and the operands that are left make of the draft is what all make of the first
abbrev pub invariant-loop-slot : goal.invariant-loop-slot
invariant-loop-slot l =
    (filled_draft (drop l.slot-index l.slots) (pieces_left (seen_rest l.rest)) (seen_draft l.draft)
    ≡ filled_draft l.slots (pieces_of l.fn.operands) (seen_draft l.fn.draft))
    × (told_fault l.fault (filled_fault (drop l.slot-index l.slots) (pieces_left (seen_rest l.rest)) (seen_draft l.draft))
    ≡ filled_fault l.slots (pieces_of l.fn.operands) (seen_draft l.fn.draft))
    × HasTargetOffset l.draft.target
