use Rattle.std.proofs.Common.{◌≡◌, length}
use Rattle.asm_lines.specs.Words.{words_of}
use Rattle.policy_text.specs.Policy.{numbers_of}
use Rattle.policy_text.proofs.Going.{onto}
use Rattle.policy_text.proofs.parts.numbers.Given as goal

-- the numbers so far and those of the words that are left
abbrev pub invariant-loop-word : goal.invariant-loop-word
invariant-loop-word l = onto l.out.items (numbers_of (words_of l.rest)) ≡ numbers_of (words_of l.words)

abbrev pub decreases-loop-word : goal.decreases-loop-word
decreases-loop-word l = length (words_of l.rest)
