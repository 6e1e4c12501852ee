use Rattle.std.proofs.Common.{◌≡◌, ◌+◌, ◌≤◌, true, length, vec_len}
use Rattle.symbols.specs.Symbols.{lines_of}
use Rattle.policy_text.specs.Policy.{any_from, any_code_of, policy_from, policy_of}
use Rattle.policy_text.specs.Seen.{has_words, read}
use Rattle.policy_text.proofs.reading.read_policy.Given as goal

-- what the lines that are left make of what was read
abbrev pub invariant-loop-rest : goal.invariant-loop-rest
invariant-loop-rest l = record {
  policy : policy_from l.symbols l.number (read l.definitions.items l.policy) (lines_of l.rest) ≡ policy_of l.symbols l.text;
  any : any_from l.symbols l.number (read l.definitions.items l.policy) (lines_of l.rest) ≡ any_code_of l.symbols l.text;
  spoken : has_words (lines_of l.rest) ≡ true → has_words (lines_of l.text) ≡ true;
  paired : vec_len l.policy.rules ≡ vec_len l.policy.lines;
  start : 1 ≤ l.number;
  number : l.number + length l.rest ≤ length l.text + 1;
}

abbrev pub decreases-loop-rest : goal.decreases-loop-rest
decreases-loop-rest l = length l.rest
