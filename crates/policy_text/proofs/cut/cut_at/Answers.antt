use Rattle.std.proofs.Common.{arith}
use Rattle.std.proofs.lemmas.Grind.{common_steps}
use Rattle.policy_text.proofs.Cuts.{found, absent}
use Rattle.policy_text.proofs.cut.cut_at.Goals as goal

pub returns-then-end-text : goal.returns-then-end-text
returns-then-end-text c = grind (arith, common_steps, found)

pub returns-else-end-text : goal.returns-else-end-text
returns-else-end-text c = grind (arith, common_steps, absent)
