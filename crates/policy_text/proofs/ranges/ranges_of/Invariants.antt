use Rattle.std.proofs.Common.{◌≡◌, length}
use Rattle.asm_lines.specs.Words.{words_of}
use Rattle.policy_text.specs.Policy.{ranges_of}
use Rattle.policy_text.specs.Seen.{seen_names}
use Rattle.policy_text.proofs.Going.{onto}
use Rattle.policy_text.proofs.ranges.ranges_of.Given as goal

-- the ranges so far and those of the words that are left
abbrev pub invariant-loop-word : goal.invariant-loop-word
invariant-loop-word l =
    onto l.out.items (ranges_of l.symbols (seen_names l.definitions) (words_of l.rest))
    ≡ ranges_of l.symbols (seen_names l.definitions) (words_of l.words)

abbrev pub decreases-loop-word : goal.decreases-loop-word
decreases-loop-word l = length (words_of l.rest)
