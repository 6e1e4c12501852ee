use Rattle.cherisim_c.proofs.Given.{of_given}
use Rattle.cherisim_c.proofs.pasts.past_of.Goals as goal

pub returns-in-Ok-clause-err : goal.returns-in-Ok-clause-err
returns-in-Ok-clause-err c = of_given c.args.image.now c.args.all.now c.past_of_image.result c.past_of_image.ensures.err
