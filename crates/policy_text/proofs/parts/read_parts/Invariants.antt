use Rattle.std.proofs.Common.{◌≡◌, ℕ, ◌+◌, List, length, Option, Some, None, option_map}
use Rattle.asm_lines.specs.Text.{pieces_left, pieces_between}
use Rattle.policy_text.specs.Policy.{parts_read, no_parts}
use Rattle.policy_text.specs.Seen.{seen_names, seen_parts}
use Rattle.policy_text.proofs.parts.read_parts.Given as goal

abbrev left_length : Option (List ℕ) → ℕ
left_length (Some text) = length text + 1
left_length None = 0

-- the texts that are left make of the parts so far what all of them make
abbrev pub invariant-loop-left : goal.invariant-loop-left
invariant-loop-left l =
    parts_read l.symbols (seen_names l.definitions) (seen_parts l.parts) (pieces_left (option_map (λ text. text.now) l.left))
    ≡ parts_read l.symbols (seen_names l.definitions) no_parts (pieces_between l.fn.text)

abbrev pub decreases-loop-left : goal.decreases-loop-left
decreases-loop-left l = left_length (option_map (λ text. text.now) l.left)
