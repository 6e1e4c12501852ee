use Rattle.std.proofs.Common.{subst}
use Rattle.reach.specs.Reach.{AreReachable, members_in}
use Rattle.reach_texts.specs.Asked.{values_of}
use Rattle.word_cap.specs.WordCap.{word_value}
use Rattle.cherisim_c.proofs.Reaches.{reachable}
use Rattle.cherisim_c.proofs.reaching.reach_of.Goals as goal

pub returns-clause-reachable : goal.returns-clause-reachable
returns-clause-reachable c =
    subst (λ s. AreReachable s (values_of (members_in s))) c.hart.ensures.value
    (reachable word_value c.hart.result.now _ c.in_ok-reach.ensures.exact c.in_ok-reach.ensures.members)
