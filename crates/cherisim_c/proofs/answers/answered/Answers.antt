use Rattle.cherisim_c.proofs.Reaches.{refused}
use Rattle.cherisim_c.proofs.answers.answered.Goals as goal

pub returns-clause-law : goal.returns-clause-law
returns-clause-law c =
    let laws = c.what_may_not_be_done_is_not_done.ensures in
    refused c.args.may c.args.machine.now laws.stretch laws.turn c.args.doors c.asked_up_to.result c.asked_up_to.ensures.reachable
    c.asked_up_to.ensures.answer
