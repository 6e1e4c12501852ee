use Rattle.breach_texts.specs.Text.{rule_lines}
use Rattle.breach_texts.proofs.breach.append_rule.Goals as goal

pub returns : goal.returns
unfolding rule_lines
returns c = rw c.ban_word.ensures at c.append.ensures.bytes
