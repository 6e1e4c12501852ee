use Rattle.policy_text.proofs.Sounds.{policy_is}
use Rattle.policy_text.proofs.laws.rules_are_sound.Goals as goal

pub returns : goal.returns
returns c = policy_is
