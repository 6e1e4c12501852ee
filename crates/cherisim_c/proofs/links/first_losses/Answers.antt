use Rattle.std.proofs.Common.{subst, sym}
use Rattle.origin_texts.specs.Down.{AreSteps}
use Rattle.cherisim_c.proofs.Losses.{first_steps}
use Rattle.cherisim_c.proofs.links.first_losses.Goals as goal

pub returns-clause-are : goal.returns-clause-are
returns-clause-are c =
    subst (AreSteps c.args.past.now) (sym c.truncate.ensures.items) (first_steps c.args.past.now c.args.most _ c.in_ok-steps.ensures.are)
